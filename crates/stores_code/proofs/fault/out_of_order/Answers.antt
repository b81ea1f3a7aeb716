-- Answers of `stores_code::fault::out_of_order`.
use mathlib.Core.Path.{refl}
use mathlib.Core.Bool.{not}
use Prim.Native.Nat.{◌+◌, ◌-◌}
use native.Mathlib.Omega.{arith}
use lib.Dec.{eqb}
use lib.ListN.{get_or}
use borrow.Author.Rules.{rules}
use Rattle.prelude.proofs.Refusals.{apart, alike}
use Rattle.prelude.proofs.Any.{Going, any_start, any_hit, any_next, any_end}
use Rattle.stores_code.proofs.fault.out_of_order.Goals as goal

pub loop-i-init : goal.loop-i-init
loop-i-init c =
    any_start (omega arith)

pub returns-then-as_index-first : goal.returns-then-as_index-first
returns-then-as_index-first c =
    any_hit c.loop-i.invariant (search rules) refl
    (apart _ _ _ _ c.as_index.ensures.0 refl c.if-as_index-first.true)

pub loop-i-preserved : goal.loop-i-preserved
loop-i-preserved c =
    any_next c.loop-i.invariant (search rules) refl
    (alike _ _ _ _ c.as_index.ensures.0 refl c.if-as_index-first.false)

pub returns : goal.returns
returns c =
    any_end c.loop-i.invariant c.loop-i-test.false
