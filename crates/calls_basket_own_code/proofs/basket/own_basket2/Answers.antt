-- Answers of `calls_basket_own_code::basket::own_basket2`.
use borrow.Author.Rules.{rules}
use Rattle.calls_basket_own_code.proofs.basket.own_basket2.Goals as goal

pub shape_of-heads : goal.shape_of-heads
shape_of-heads c =
    c.basket_in.auto.heads

pub shape_of-next : goal.shape_of-next
shape_of-next c =
    c.basket_in.auto.next

pub shape_of-at : goal.shape_of-at
shape_of-at c =
    c.basket_in.auto.at

pub shape_of-words : goal.shape_of-words
shape_of-words c =
    c.basket_in.auto.words

pub returns : goal.returns
returns c =
    record { result = (c.basket_in.ensures.result) }
