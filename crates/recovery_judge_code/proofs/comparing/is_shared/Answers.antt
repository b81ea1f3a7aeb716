-- Answers of `recovery_judge_code::comparing::is_shared`.
use mathlib.Core.Path.{◌∙◌}
use borrow.Author.Tests.{lt-leb}
use Rattle.recovery.proofs.Orders.{neighbours_low, neighbours_test}
use Rattle.recovery_judge_code.proofs.comparing.is_shared.Goals as goal

pub returns-then-a-ge2 : goal.returns-then-a-ge2
returns-then-a-ge2 c =
    neighbours_test _ _ _ _ c.entry_at-a.ensures.result _ c.entry_at.ensures.result c.if-a-ge2.true

pub returns-else-a-ge2 : goal.returns-else-a-ge2
returns-else-a-ge2 c =
    lt-leb 2 _ c.if-a-ge2.false ∙ neighbours_low _ _ _ _ c.entry_at-a.ensures.result c.if-a-ge2.false
