-- Invariants of `calls_basket_plan_code::olds::find_olds`.
use Prim.Native.Nat.{◌-◌}
use native.Mathlib.Omega.{arith}
use Rattle.index.specs.Walk.{search as following}
use Rattle.calls.specs.BasketItems.{item_at}
use Rattle.calls.proofs.BasketChecks.{Finding, finding_starts, finding_stops, finding_on, finding_ends}
use borrow.Author.Rules.{rules}
use Rattle.calls_basket_plan_code.proofs.olds.find_olds.Given as goal

-- `calls_basket_plan_code::olds::find_olds` meets its contract. Assumes nothing.
abbrev pub invariant-loop-i : goal.invariant-loop-i
invariant-loop-i l = Finding (following l.l l.image l.heads l.next) l.l l.items l.count l.slots l.i
