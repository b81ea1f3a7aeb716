-- Answers of `recovery_fault_code::fault::found_slot`.
use borrow.Author.Rules.{rules}
use Rattle.prelude.proofs.Refusals.{refuse_if-true, refuse_if-false}
use Rattle.recovery.specs.inner.Judge.{found_slot}
use Rattle.recovery_fault_code.proofs.fault.found_slot.Goals as goal

pub returns-then-mark : goal.returns-then-mark
unfolding found_slot
returns-then-mark c =
    record { result = (search (refuse_if-true, rules)) }

pub returns : goal.returns
unfolding found_slot
returns c =
    record { result = (search (refuse_if-false, rules)) }
