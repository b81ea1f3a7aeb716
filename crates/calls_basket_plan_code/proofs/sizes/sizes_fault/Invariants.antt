-- Invariants of `calls_basket_plan_code::sizes::sizes_fault`.
use lib.ListN.{length}
use Rattle.calls.specs.BasketRefusals.{value_fault}
use Rattle.calls.proofs.BasketChecks.{Checking}
use Rattle.calls_basket_plan_code.proofs.sizes.sizes_fault.Given as goal

abbrev pub invariant-loop-item : goal.invariant-loop-item
invariant-loop-item l = Checking (λ c. value_fault l.l c.action (length c.value)) l.l l.fn.items l.count l.item-index
