-- Answers of `allocation_code::take::take_fault_by`.
use Rattle.allocation.specs.Allocation.{allocation_by}
use Rattle.allocation_code.proofs.take.take_fault_by.Goals as goal

pub returns-then-own : goal.returns-then-own
unfolding allocation_by
returns-then-own c =
    record { result = (rw c.if-own.true c.own_fault.ensures) }

pub returns-else-own : goal.returns-else-own
unfolding allocation_by
returns-else-own c =
    record { result = (rw c.if-own.false c.take_fault.ensures) }
