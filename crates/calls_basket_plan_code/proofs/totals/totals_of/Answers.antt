-- Answers of `calls_basket_plan_code::totals::totals_of`.
use mathlib.Core.Path.{◌≡◌, ap, ◌∙◌}
use Prim.Native.Nat.{◌<◌, ◌≤◌}
use native.Mathlib.Omega.{arith}
use lib.ListN.{length}
use borrow.Author.Rules.{rules}
use Rattle.std.proofs.lemmas.List.{length-take}
use Rattle.calls.specs.declared.BasketItem.{BasketItem}
use Rattle.calls.specs.BasketRefusals.{inserts_by, removes_by}
use Rattle.calls.proofs.BasketChecks.{counting_starts, counting_on, counting_ends, adds_one, takes_one, item_taken}
use Rattle.calls_basket_plan_code.proofs.totals.totals_of.Goals as goal

pub loop-item-init : goal.loop-item-init
loop-item-init c =
    counting_starts _ _

pub overflow_add-inserts : goal.overflow_add-inserts
overflow_add-inserts c =
    omega (
      arith,
      c.loop-item-test.true,
      c.requires,
      c.loop-item.invariant.inserts_few,
      adds_one _ _ c.inserts_by-inserts.ensures,
      length-take c.args.count c.args.items,
    )

pub overflow_add-removes : goal.overflow_add-removes
overflow_add-removes c =
    omega (
      arith,
      c.loop-item-test.true,
      c.requires,
      c.loop-item.invariant.removes_few,
      takes_one _ _ c.removes_by-removes.ensures,
      length-take c.args.count c.args.items,
    )

pub loop-item-preserved : goal.loop-item-preserved
loop-item-preserved c =
    let here : c.loop-item.item-index < c.args.count = omega (arith, c.loop-item-test.true, length-take c.args.count c.args.items) in
    counting_on _ _ _ _ _ c.loop-item.invariant here _ _
    (c.inserts_by-inserts.ensures ∙ ap (λ (i : BasketItem). inserts_by i.action) (item_taken c.args.items c.args.count _ _ c.loop-item-test.true))
    (c.removes_by-removes.ensures ∙ ap (λ (i : BasketItem). removes_by i.action) (item_taken c.args.items c.args.count _ _ c.loop-item-test.true))

pub returns : goal.returns
returns c =
    let size : length c.args.items ≡ 8 = search (rules, c.well_formed.0) in
    record {
      result = (counting_ends _ _ _ _ _ c.loop-item.invariant (omega (arith, size, c.loop-item-test.false, length-take c.args.count c.args.items)));
    }
