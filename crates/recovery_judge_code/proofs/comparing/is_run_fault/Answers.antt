-- Answers of `recovery_judge_code::comparing::is_run_fault`.
use mathlib.Core.Bool.{not}
use mathlib.Core.Path.{ap, ◌∙◌}
use borrow.Author.Tests.{ne_eqb}
use Rattle.recovery.proofs.Compares.{run_apart, run_differs, run_test}
use Rattle.recovery_judge_code.proofs.comparing.is_run_fault.Goals as goal

pub returns-then-number_at : goal.returns-then-number_at
returns-then-number_at c =
    ap not (ne_eqb _ _ c.if-number_at.true)
    ∙ run_differs _ _ _ _ _ c.is_shared.ensures c.if-is_shared.true _ _ c.number_at.ensures.result.0
    c.number_at-then-is_shared.ensures.result.0 c.if-number_at.true

pub returns-else-number_at : goal.returns-else-number_at
returns-else-number_at c =
    run_test _ _ _ _ _ c.is_shared.ensures c.if-is_shared.true _ _ c.number_at.ensures.result.0
    c.number_at-then-is_shared.ensures.result.0 c.if-number_at.false _ c.is_too_many.ensures

pub returns-else-is_shared : goal.returns-else-is_shared
returns-else-is_shared c =
    c.if-is_shared.false ∙ run_apart _ _ _ _ _ c.is_shared.ensures c.if-is_shared.false
