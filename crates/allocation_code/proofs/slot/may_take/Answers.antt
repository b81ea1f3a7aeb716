-- Answers of `allocation_code::slot::may_take`.
use mathlib.Core.Path.{◌∙◌}
use Rattle.allocation.proofs.Tested.{may_low}
use Rattle.allocation_code.proofs.slot.may_take.Goals as goal

pub returns-then-is_low : goal.returns-then-is_low
returns-then-is_low c =
    record { result = c.if-is_low.true ∙ may_low _ _ _ _ _ _ _ c.is_low.ensures.result c.if-is_low.true }
