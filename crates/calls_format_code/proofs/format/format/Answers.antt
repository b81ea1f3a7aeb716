-- Answers of `calls_format_code::format::format`.
use mathlib.Core.Path.{◌≡◌}
use native.Mathlib.Omega.{arith}
use lib.ListN.{length, replicate}
use borrow.Author.Rules.{rules}
use Rattle.calls.specs.Format.{format_says}
use Rattle.calls.proofs.Formats.{some_slots, format_refused, format_done, format_room, format_fits}
use Rattle.calls_format_code.proofs.format.format.Goals as goal

pub returns-then-fault-ne0 : goal.returns-then-fault-ne0
unfolding format_says
returns-then-fault-ne0 c =
    record { result = (format_refused _ _ _ c.slot_count-n.ensures.result _ c.format_fault-fault.ensures c.if-fault-ne0.true) }

pub write_word-requires : goal.write_word-requires
write_word-requires c =
    omega (
      arith,
      format_room _ _ c.slot_count-n.ensures.result
          (some_slots _ _ _ c.format_fault-fault.ensures c.if-fault-ne0.false),
    )

pub write_word-requires-2 : goal.write_word-requires-2
write_word-requires-2 c =
    omega (
      arith,
      c.write_word.auto.image,
      format_room _ _ c.slot_count-n.ensures.result
          (some_slots _ _ _ c.format_fault-fault.ensures c.if-fault-ne0.false),
    )

pub overflow_cast-result : goal.overflow_cast-result
overflow_cast-result c =
    record {
      fits = format_fits _ _ c.slot_count-n.ensures.result
          (some_slots _ _ _ c.format_fault-fault.ensures c.if-fault-ne0.false);
    }

pub returns : goal.returns
unfolding format_says
returns c =
    let zeros : c.fill.new.self ≡ replicate (length c.args.image.now) 0 = search rules in
    record {
      result = (format_done _ _ _ c.slot_count-n.ensures.result _ c.format_fault-fault.ensures
          c.if-fault-ne0.false _ _ _
          zeros c.write_word.ensures.result c.write_word-2.ensures.result);
    }
