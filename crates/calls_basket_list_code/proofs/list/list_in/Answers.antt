-- Answers of `calls_basket_list_code::list::list_in`.
use Rattle.std.proofs.Common.{ℕ, List, ◌≡◌, ◌≤◌, length, arith, ap, ◌∙◌, rules}
use Rattle.stores.specs.Store.{Store}
use Rattle.calls.specs.BasketList.{basket_list_end}
use Rattle.calls.proofs.BasketLists.{in_list}
use Rattle.calls_basket_list_code.proofs.list.list_in.Goals as goal

pub returns : goal.returns
returns c =
    let n : length c.basket_made-stored.result.at ≡ 128 = search rules in
    let m : length c.basket_made-stored.result.words ≡ 128 = search rules in
    let h = c.basket_made-stored.ensures.result in
    ap (λ (l : List Store). basket_list_end c.args.count c.basket_made-stored.result.answer l c.basket_made-stored.new.heads c.basket_made-stored.new.next)
    c.fill_store_list.ensures.result
    ∙ in_list _ _ c.args.count c.basket_made-stored.result _ _ h (omega (arith, h.in_arrays, n)) (omega (arith, h.in_arrays, m)) c.args.list.now
