-- Answers of `calls_basket_code::basket::store_basket`.
use native.Mathlib.Omega.{arith}
use borrow.Author.Rules.{rules}
use Rattle.calls.proofs.BasketEnds.{ready_at, takens_inside, items_inside, stores_inside, fits_live, fits_removes, basket_written}
use Rattle.calls_basket_code.proofs.basket.store_basket.Goals as goal

pub change_index-rest-requires : goal.change_index-rest-requires
change_index-rest-requires c =
    let w = ready_at _ _ _ _ _ c.args.state _ _ _ _ _ _ c.slot_count-n.ensures.result c.requires.1 in
    (takens_inside _ _ _ _ _ _ c.args.state _ _ _ _ _ w, items_inside _ _ _ _ _ _ c.args.state _ _ _ _ _ w)

pub fill_basket_stores-requires : goal.fill_basket_stores-requires
fill_basket_stores-requires c =
    stores_inside _ _ _ _ _ _ c.args.state _ _ _ _ _ c.requires.1 c.requires.0

pub overflow_add-result : goal.overflow_add-result
overflow_add-result c =
    omega (arith, fits_live _ _ _ _ _ _ c.args.state _ _ _ _ _ c.requires.1 _ (c.totals_of-totals.ensures.result _))

pub overflow_sub-result : goal.overflow_sub-result
overflow_sub-result c =
    omega (arith, fits_removes _ _ _ _ _ _ c.args.state _ _ _ _ _ c.requires.1 _ (c.totals_of-totals.ensures.result _))

pub overflow_add-result-2 : goal.overflow_add-result-2
overflow_add-result-2 c =
    omega (arith, c.requires.1.version_fits)

pub returns : goal.returns
returns c =
    basket_written _ _ _ _ _ _ c.args.state _ _ _ _ _
    (ready_at _ _ _ _ _ c.args.state _ _ _ _ _ _ c.slot_count-n.ensures.result c.requires.1) _ _ _ _ _ _ _ _ _
    c.well_formed.1.1.1.1.1.1.1.1.1.0.1.0.1 c.slot_count-n.ensures.result (c.change_index-rest.ensures.result _)
    c.fill_basket_stores.ensures.result.0
    c.fill_basket_stores.ensures.result.1 (c.totals_of-totals.ensures.result _)
