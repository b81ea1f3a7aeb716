-- Answers of `calls_basket_plan_code::olds::find_olds`.
use Prim.Native.Nat.{◌-◌}
use native.Mathlib.Omega.{arith}
use Rattle.index.specs.Walk.{search as following}
use Rattle.calls.specs.BasketItems.{item_at}
use Rattle.calls.proofs.BasketChecks.{Finding, finding_starts, finding_stops, finding_on, finding_ends}
use borrow.Author.Rules.{rules}
use Rattle.calls_basket_plan_code.proofs.olds.find_olds.Goals as goal

pub loop-i-init : goal.loop-i-init
loop-i-init c =
    finding_starts _ _ _ _

pub find_key-found-requires : goal.find_key-found-requires
find_key-found-requires c =
    (c.requires.0, c.requires.1)

pub returns-then-fault-ne0 : goal.returns-then-fault-ne0
unfolding item_at
returns-then-fault-ne0 c =
    record {
      result = (finding_stops _ _ _ _ _ _ c.loop-i.invariant c.loop-i-test.true _ c.high_in-high.ensures.result _
          c.find_key-found.ensures.result _ c.chain_fault-fault.ensures.result c.if-fault-ne0.true _);
    }

pub loop-i-preserved : goal.loop-i-preserved
unfolding item_at
loop-i-preserved c =
    finding_on _ _ _ _ _ _ c.loop-i.invariant c.loop-i-test.true _ c.high_in-high.ensures.result _
    c.find_key-found.ensures.result _ c.chain_fault-fault.ensures.result c.requires.2 c.if-fault-ne0.false _
    c.old_in.ensures

pub returns : goal.returns
returns c =
    record { result = (finding_ends _ _ _ _ _ _ c.loop-i.invariant c.loop-i-test.false) }
