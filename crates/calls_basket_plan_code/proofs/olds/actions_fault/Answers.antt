-- Answers of `calls_basket_plan_code::olds::actions_fault`.
use Prim.Native.Nat.{◌-◌}
use native.Mathlib.Omega.{arith}
use Rattle.calls.specs.BasketItems.{item_at}
use Rattle.calls.proofs.BasketChecks.{Acting, acting_starts, acting_stops, acting_on, acting_ends}
use borrow.Author.Rules.{rules}
use Rattle.calls_basket_plan_code.proofs.olds.actions_fault.Goals as goal

pub loop-i-init : goal.loop-i-init
loop-i-init c =
    acting_starts _ _ _

pub returns-then-fault-ne0 : goal.returns-then-fault-ne0
unfolding item_at
returns-then-fault-ne0 c =
    record { result = (acting_stops _ _ _ _ c.loop-i.invariant c.loop-i-test.true _ c.action_fault-fault.ensures c.if-fault-ne0.true) }

pub loop-i-preserved : goal.loop-i-preserved
unfolding item_at
loop-i-preserved c =
    acting_on _ _ _ _ c.loop-i.invariant c.loop-i-test.true _ c.action_fault-fault.ensures c.if-fault-ne0.false

pub returns : goal.returns
returns c =
    record { result = (acting_ends _ _ _ _ c.loop-i.invariant c.loop-i-test.false) }
