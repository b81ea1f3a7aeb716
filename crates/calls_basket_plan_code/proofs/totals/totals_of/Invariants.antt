-- Invariants of `calls_basket_plan_code::totals::totals_of`.
use Rattle.calls.proofs.BasketChecks.{Counting}
use Rattle.calls_basket_plan_code.proofs.totals.totals_of.Given as goal

abbrev pub invariant-loop-item : goal.invariant-loop-item
invariant-loop-item l = Counting l.fn.items l.count l.inserts l.removes l.item-index
