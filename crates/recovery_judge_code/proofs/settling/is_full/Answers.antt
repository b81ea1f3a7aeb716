-- Answers of `recovery_judge_code::settling::is_full`.
use mathlib.Core.Path.{ap, ◌∙◌}
use borrow.Author.Tests.{lt-leb}
use Rattle.table.specs.Complete.{basket_size}
use Rattle.recovery.proofs.Compares.{full_short, full_test}
use Rattle.recovery_judge_code.proofs.settling.is_full.Goals as goal

pub returns-then-size-i : goal.returns-then-size-i
returns-then-size-i c =
    full_test _ _ _ _ _ (c.records_said-size.ensures.result.0 ∙ ap basket_size c.number_at.ensures.result.0) _ _ c.if-size-i.true
    c.entry_at.ensures.result c.entry_at-then-size-i.ensures.result

pub returns-else-size-i : goal.returns-else-size-i
returns-else-size-i c =
    lt-leb _ _ c.if-size-i.false
    ∙ full_short _ _ _ _ _ (c.records_said-size.ensures.result.0 ∙ ap basket_size c.number_at.ensures.result.0) c.if-size-i.false
