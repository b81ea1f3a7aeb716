-- Answers of `calls_basket_plan_code::sizes::sizes_fault`.
use mathlib.Core.Path.{◌≡◌, ap, ◌∙◌}
use Prim.Native.Nat.{◌<◌, ◌≤◌}
use native.Mathlib.Omega.{arith}
use lib.ListN.{length}
use borrow.Author.Rules.{rules}
use Rattle.std.proofs.lemmas.List.{length-take}
use Rattle.calls.specs.declared.BasketItem.{BasketItem}
use Rattle.calls.specs.BasketRefusals.{value_fault}
use Rattle.calls.proofs.BasketChecks.{check_starts, check_stops, check_on, check_ends, size-at, item_taken}
use Rattle.calls_basket_plan_code.proofs.sizes.sizes_fault.Goals as goal

pub loop-item-init : goal.loop-item-init
loop-item-init c =
    check_starts _ _ _ _

pub returns-then-fault-ne0 : goal.returns-then-fault-ne0
returns-then-fault-ne0 c =
    let here : c.loop-item.item-index < c.args.count = omega (arith, c.loop-item-test.true, length-take c.args.count c.args.items) in
    check_stops _ _ _ _ _ c.loop-item.invariant here _
    (size-at _ _ _ _ (c.value_size_fault-fault.ensures
    ∙ ap (λ (i : BasketItem). value_fault c.args.l i.action i.length) (item_taken c.args.items c.args.count _ _ c.loop-item-test.true)))
    c.if-fault-ne0.true

pub loop-item-preserved : goal.loop-item-preserved
loop-item-preserved c =
    let here : c.loop-item.item-index < c.args.count = omega (arith, c.loop-item-test.true, length-take c.args.count c.args.items) in
    check_on _ _ _ _ _ c.loop-item.invariant here _
    (size-at _ _ _ _ (c.value_size_fault-fault.ensures
    ∙ ap (λ (i : BasketItem). value_fault c.args.l i.action i.length) (item_taken c.args.items c.args.count _ _ c.loop-item-test.true)))
    c.if-fault-ne0.false

pub returns : goal.returns
returns c =
    let size : length c.args.items ≡ 8 = search (rules, c.well_formed.1.0) in
    check_ends _ _ _ _ _ c.loop-item.invariant (omega (arith, size, c.loop-item-test.false, length-take c.args.count c.args.items))
