-- Answers of `log_stores_code::filling::fill_payload`.
use mathlib.Core.Path.{refl, ap, ◌∙◌}
use native.Mathlib.Omega.{arith}
use borrow.Author.Rules.{rules}
use Rattle.words.specs.Word.{word}
use Rattle.message_log.specs.Bit.{store_count}
use Rattle.message_log.proofs.Pairs.{pair_within}
use Rattle.message_log.proofs.Plans.{pay_start, pay_next, pay_few, pay_room, pay_end}
use Rattle.log_stores_code.proofs.filling.fill_payload.Goals as goal

pub loop-i-init : goal.loop-i-init
loop-i-init c =
    pay_start _ _ _ _ _

pub differing_word-requires : goal.differing_word-requires
differing_word-requires c =
    record { room = omega (arith, c.requires.inside); payload = omega arith }

pub store_count-count-requires : goal.store_count-count-requires
store_count-count-requires c =
    pair_within _ _ _ _ _ c.differing_word.ensures.result

pub fill_line-requires : goal.fill_line-requires
fill_line-requires c =
    let count_is = c.store_count-count.ensures.result ∙ ap store_count c.differing_word.ensures.result in
    record {
      room =
          pay_room (word c.args.area.now) c.args.c c.args.message.now c.args.at.now c.args.value.now _ _ _ _ _ _
          c.loop-i.invariant (search rules) refl count_is c.requires.room;
      few =
          pay_few (word c.args.area.now) c.args.c c.args.message.now c.args.at.now c.args.value.now _ _ _ _ _ _
          c.loop-i.invariant (search rules) refl count_is;
      line_low = omega (arith, c.requires.cell);
      payload = omega arith;
    }

pub overflow_add-k : goal.overflow_add-k
overflow_add-k c =
    let count_is = c.store_count-count.ensures.result ∙ ap store_count c.differing_word.ensures.result in
    omega (
      arith,
      (pay_room (word c.args.area.now) c.args.c c.args.message.now c.args.at.now c.args.value.now _ _ _ _ _ _
          c.loop-i.invariant (search rules) refl count_is c.requires.room).at_room,
      c.loop-i.invariant.left.ats.size,
    )

pub loop-i-preserved : goal.loop-i-preserved
loop-i-preserved c =
    pay_next _ _ _ _ _ _ _ _ _ _ _
    c.loop-i.invariant (search rules) refl
    (c.store_count-count.ensures.result ∙ ap store_count c.differing_word.ensures.result) _ _ c.fill_line.ensures

pub shape_of-at : goal.shape_of-at
shape_of-at c =
    c.loop-i.invariant.left.ats.size

pub shape_of-value : goal.shape_of-value
shape_of-value c =
    c.loop-i.invariant.left.vals.size

pub returns : goal.returns
returns c =
    pay_end _ _ _ _ _ _ _ _ _ c.loop-i.invariant c.loop-i-test.false
