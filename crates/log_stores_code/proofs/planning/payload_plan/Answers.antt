-- Answers of `log_stores_code::planning::payload_plan`.
use mathlib.Core.Path.{refl, ap, ◌∙◌}
use native.Mathlib.Omega.{arith}
use borrow.Author.Rules.{rules}
use Rattle.words.proofs.Laws.{word_range}
use Rattle.words.specs.Word.{word}
use Rattle.message_log.specs.Bit.{store_count}
use Rattle.message_log.proofs.Pairs.{pair_within}
use Rattle.message_log.proofs.Plans.{plan_start, plan_next, plan_room, count_room, plan_end}
use Rattle.log_stores_code.proofs.planning.payload_plan.Goals as goal

pub loop-i-init : goal.loop-i-init
loop-i-init c =
    plan_start _ _ _

pub differing_word-place-requires : goal.differing_word-place-requires
differing_word-place-requires c =
    record { room = omega (arith, c.loop-i.invariant.left); payload = omega (arith, c.loop-i.invariant.left) }

pub line_pair-requires : goal.line_pair-requires
line_pair-requires c =
    record {
      inside = record { room = omega (arith, c.loop-i.invariant.left); payload = omega (arith, c.loop-i.invariant.left) };
      found = c.differing_word-place.ensures.result;
    }

pub overflow_mul-pairs : goal.overflow_mul-pairs
overflow_mul-pairs c =
    omega (
      arith,
      plan_room (word c.args.area.now) c.args.c c.args.message.now _ _ _ _
          (λ j. word_range c.args.area.now j (λ x. (c.shared_slice_known-1.given x).fits))
          (λ x. (c.shared_slice_known-2-1.given x).fits)
          c.loop-i.invariant (search rules) _ _ c.line_pair.ensures.result,
    )

pub overflow_add-pairs : goal.overflow_add-pairs
overflow_add-pairs c =
    omega (
      arith,
      plan_room (word c.args.area.now) c.args.c c.args.message.now _ _ _ _
          (λ j. word_range c.args.area.now j (λ x. (c.shared_slice_known-1.given x).fits))
          (λ x. (c.shared_slice_known-2-1.given x).fits)
          c.loop-i.invariant (search rules) _ _ c.line_pair.ensures.result,
    )

pub store_count-count-requires : goal.store_count-count-requires
store_count-count-requires c =
    pair_within _ _ _ _ _ c.differing_word-place.ensures.result

pub overflow_add-count : goal.overflow_add-count
overflow_add-count c =
    omega (
      arith,
      count_room (word c.args.area.now) c.args.c c.args.message.now _ _ _ _ _ _ c.loop-i.invariant
          (search rules) (c.store_count-count.ensures.result ∙ ap store_count c.differing_word-place.ensures.result),
    )

pub loop-i-preserved : goal.loop-i-preserved
loop-i-preserved c =
    plan_next _ _ _ _ _ _ _ _ _ _ c.loop-i.invariant (search rules) refl refl
    (c.store_count-count.ensures.result ∙ ap store_count c.differing_word-place.ensures.result) c.line_pair.ensures.result

pub returns : goal.returns
returns c =
    plan_end _ _ _ _ _ _ c.loop-i.invariant c.loop-i-test.false
