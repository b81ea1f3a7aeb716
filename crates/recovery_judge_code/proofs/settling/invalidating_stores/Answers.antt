-- Answers of `recovery_judge_code::settling::invalidating_stores`.
use mathlib.Core.Path.{ap, ◌∙◌}
use Prim.Native.Nat.{◌+◌}
use native.Mathlib.Omega.{arith}
use borrow.Author.Tests.{lt-ltb, le-ltb}
use Rattle.recovery.specs.inner.Judge.{with_store}
use Rattle.recovery.proofs.InvalidatingStores.{invalidating-store, invalidating_start, invalidating_more, invalidating_same, invalidating_end}
use Rattle.recovery_judge_code.proofs.settling.invalidating_stores.Goals as goal
use Rattle.recovery_judge_code.proofs.settling.invalidating_stores.Goals.{then-limit-ranks, else-limit-ranks}

pub loop-s-init : goal.loop-s-init
loop-s-init c =
    invalidating_start _ _ _ _ c.no_invalidations-opened.ensures.result

pub loop-s-preserved : goal.loop-s-preserved
loop-s-preserved c =
    elim c.if-limit-ranks.branch [
      | then-limit-ranks w ↦
          invalidating_more _ _ _ _ _ c.loop-s.invariant c.loop-s-test.true _ (lt-ltb _ _ w.if-limit-ranks.true)
          (w.opened-is ∙ w.with_store-opened.ensures ∙ ap (with_store _)
          (invalidating-store _ _ _ _ w.first_word-mark.ensures.result w.read_word.ensures.result))
      | else-limit-ranks w ↦
          invalidating_same _ _ _ _ _ c.loop-s.invariant c.loop-s-test.true _ (le-ltb _ _ w.if-limit-ranks.false) w.opened-is
    ]

pub returns-after-limit-ranks : goal.returns-after-limit-ranks
returns-after-limit-ranks c =
    invalidating_end _ _ _ c.if-limit-ranks.opened (c.loop-s.s + 1)
    (elim c.if-limit-ranks.branch [
      | then-limit-ranks w ↦
          invalidating_more _ _ _ _ _ c.loop-s.invariant c.loop-s-test.true _ (lt-ltb _ _ w.if-limit-ranks.true)
          (w.opened-is ∙ w.with_store-opened.ensures ∙ ap (with_store _)
          (invalidating-store _ _ _ _ w.first_word-mark.ensures.result w.read_word.ensures.result))
      | else-limit-ranks w ↦
          invalidating_same _ _ _ _ _ c.loop-s.invariant c.loop-s-test.true _ (le-ltb _ _ w.if-limit-ranks.false) w.opened-is
    ])
    (omega arith)
