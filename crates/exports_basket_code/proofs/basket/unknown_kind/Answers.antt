-- Answers of `exports_basket_code::basket::unknown_kind`.
use Prim.Native.Nat.{◌-◌}
use mathlib.Core.Path.{ap}
use mathlib.Core.Bool.{not}
use native.Mathlib.Omega.{arith}
use lib.ListN.{get_or}
use borrow.Author.Rules.{rules}
use Rattle.prelude.proofs.Any.{Going, any_start, any_hit, any_next, any_end}
use Rattle.exports.specs.Basket.{is_kind, unknown_kind}
use Rattle.std.proofs.lemmas.Bool.{not_from_true, not_from_false}
use Rattle.exports_basket_code.proofs.basket.unknown_kind.Goals as goal

pub loop-i-init : goal.loop-i-init
loop-i-init c =
    any_start (omega arith)

pub offset_bounds-kinds-i : goal.offset_bounds-kinds-i
offset_bounds-kinds-i c =
    omega (arith, c.loop-i-test.true, c.requires)

pub bounds-kinds-i : goal.bounds-kinds-i
bounds-kinds-i c =
    omega (arith, c.loop-i-test.true, c.requires)

pub returns-then-not-is_kind : goal.returns-then-not-is_kind
unfolding unknown_kind
returns-then-not-is_kind c =
    any_hit c.loop-i.invariant c.loop-i-test.true (ap not c.is_kind.ensures) (not_from_false _ c.if-not-is_kind.true)

pub overflow_add-i : goal.overflow_add-i
overflow_add-i c =
    omega (arith, c.loop-i-test.true, c.requires)

pub loop-i-smaller : goal.loop-i-smaller
loop-i-smaller c =
    omega (arith, c.loop-i-test.true)

pub loop-i-preserved : goal.loop-i-preserved
loop-i-preserved c =
    any_next c.loop-i.invariant c.loop-i-test.true (ap not c.is_kind.ensures) (not_from_true _ c.if-not-is_kind.false)

pub returns : goal.returns
unfolding unknown_kind
returns c =
    any_end c.loop-i.invariant c.loop-i-test.false
