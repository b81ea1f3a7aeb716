-- Answers of `log_stores_code::invalidation::count_invalidations`.
use borrow.Author.Rules.{rules}
use Rattle.message_log.proofs.Recoveries.{count_start, count_above, count_passed, count-end}
use Rattle.log_stores_code.proofs.invalidation.count_invalidations.Goals.{then-is_above, else-is_above}
use Rattle.log_stores_code.proofs.invalidation.count_invalidations.Goals as goal

pub loop-c-init : goal.loop-c-init
loop-c-init c =
    count_start _ _ _

pub loop-c-preserved : goal.loop-c-preserved
loop-c-preserved c =
    elim c.if-is_above.branch [
      | then-is_above w ↦ count_above _ _ _ _ _ _ _ c.loop-c.invariant (search rules) c.is_above.ensures w.if-is_above.true w.count-is
      | else-is_above w ↦ count_passed _ _ _ _ _ _ _ c.loop-c.invariant (search rules) c.is_above.ensures w.if-is_above.false w.count-is
    ]

pub returns : goal.returns
returns c =
    record { result = (count-end _ _ _ _ _ c.loop-c.invariant c.loop-c-test.false) }
