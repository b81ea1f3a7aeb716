-- Answers of `allocation_code::take::own_fault`.
use Rattle.allocation.proofs.Own.{own_chosen}
use Rattle.allocation_code.proofs.take.own_fault.Goals as goal

-- `allocation_code::take::own_fault` meets its contract. Assumes nothing.
pub returns : goal.returns
returns c =
    (own_chosen _ _ _ _ _ _ _ c.named_version-top.ensures.result _ _ c.choose_below-choice.ensures.result).fault_is
