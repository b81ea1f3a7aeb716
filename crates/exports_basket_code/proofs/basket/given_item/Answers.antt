-- Answers of `exports_basket_code::basket::given_item`.
use borrow.Author.Rules.{rules}
use Rattle.exports.specs.Basket.{given_item}
use Rattle.exports_basket_code.proofs.basket.given_item.Goals as goal

pub returns : goal.returns
unfolding given_item
returns c =
    rw c.action_of.ensures
