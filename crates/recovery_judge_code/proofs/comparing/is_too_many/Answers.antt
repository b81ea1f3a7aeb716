-- Answers of `recovery_judge_code::comparing::is_too_many`.
use mathlib.Core.Path.{ap, ◌∙◌}
use native.Mathlib.Omega.{arith}
use borrow.Author.Tests.{le-ltb}
use Rattle.table.specs.Complete.{basket_size}
use Rattle.recovery.proofs.Compares.{too_many_past, too_many_test}
use Rattle.recovery_judge_code.proofs.comparing.is_too_many.Goals as goal

pub returns-then-end-n : goal.returns-then-end-n
returns-then-end-n c =
    too_many_test _ _ _ _ _ (c.records_said.ensures.result.0 ∙ ap basket_size c.number_at.ensures.result.0) _ _
    (omega (arith, c.requires.0.order_size, c.if-end-n.true)) c.entry_at.ensures.result c.entry_at-then-end-n.ensures.result

pub returns-else-end-n : goal.returns-else-end-n
returns-else-end-n c =
    le-ltb _ _ c.if-end-n.false
    ∙ too_many_past _ _ _ _ _ (c.records_said.ensures.result.0 ∙ ap basket_size c.number_at.ensures.result.0)
    (omega (arith, c.requires.0.order_size, c.if-end-n.false))
