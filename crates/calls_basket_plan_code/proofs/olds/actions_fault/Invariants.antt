-- Invariants of `calls_basket_plan_code::olds::actions_fault`.
use Prim.Native.Nat.{◌-◌}
use native.Mathlib.Omega.{arith}
use Rattle.calls.specs.BasketItems.{item_at}
use Rattle.calls.proofs.BasketChecks.{Acting, acting_starts, acting_stops, acting_on, acting_ends}
use borrow.Author.Rules.{rules}
use Rattle.calls_basket_plan_code.proofs.olds.actions_fault.Given as goal

-- `calls_basket_plan_code::olds::actions_fault` meets its contract. Assumes nothing.
abbrev pub invariant-loop-i : goal.invariant-loop-i
invariant-loop-i l = Acting l.items l.count l.olds l.i
