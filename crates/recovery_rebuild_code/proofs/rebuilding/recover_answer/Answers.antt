-- Answers of `recovery_rebuild_code::rebuilding::recover_answer`.
use mathlib.Core.Path.{refl}
use borrow.Author.Rules.{rules}
use borrow.Author.Tests.{ne_eqb}
use Rattle.prelude.proofs.Tests.{tests}
use Rattle.recovery.specs.inner.Judge.{answer_by}
use Rattle.recovery_rebuild_code.proofs.rebuilding.recover_answer.Goals as goal

pub returns-then-fault-eq0 : goal.returns-then-fault-eq0
unfolding answer_by
returns-then-fault-eq0 c =
    search tests

pub no_invalidations-requires : goal.no_invalidations-requires
unfolding answer_by
no_invalidations-requires c =
    search rules

-- `recovery_rebuild_code::rebuilding::recover_answer` meets its contract. Assumes nothing.
pub returns : goal.returns
unfolding answer_by
returns c =
    rw (c.no_invalidations.ensures.result, ne_eqb c.args.fault 0 c.if-fault-eq0.false) refl
