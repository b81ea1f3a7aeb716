-- Answers of `calls_basket_write_code::links::change_index`.
use Rattle.calls.proofs.BasketLinks.{left_inside, index_changed}
use borrow.Author.Rules.{rules}
use Rattle.calls_basket_write_code.proofs.links.change_index.Goals as goal

-- `calls_basket_write_code::links::change_index` meets its contract. Assumes nothing.
pub link_all-requires : goal.link_all-requires
link_all-requires c =
    left_inside _ _ _ _ _ c.args.heads.now _ _ _ _ c.take_all-rest.ensures.result c.take_all-rest.auto.next c.requires.0
    c.requires.1

pub returns : goal.returns
returns c =
    record { result = (index_changed _ _ _ _ _ _ _ _ _ _ _ c.take_all-rest.ensures.result _ _ _ c.link_all.ensures) }
