-- Answers of `allocation_code::choose::choose_by`.
use Rattle.allocation.specs.Allocation.{allocation_by, allocation_chosen_by}
use Rattle.allocation.proofs.Own.{own_chosen}
use Rattle.allocation_code.proofs.choose.choose_by.Goals as goal

pub returns-then-own : goal.returns-then-own
unfolding allocation_by allocation_chosen_by
returns-then-own c =
    record { result = (rw c.if-own.true (own_chosen _ _ _ _ _ _ _ c.named_version-top.ensures.result _ _ c.choose_below.ensures.result)) }

pub returns-else-own : goal.returns-else-own
unfolding allocation_by allocation_chosen_by
returns-else-own c =
    record { result = (rw c.if-own.false c.choose.ensures) }
