-- Answers of `calls_basket_code::basket::basket_in_layout`.
use borrow.Author.Rules.{rules}
use Rattle.layout.proofs.Layouts.{layout_numbered}
use Rattle.calls_basket_code.proofs.basket.basket_in_layout.Goals as goal

pub basket_in-requires : goal.basket_in-requires
basket_in-requires c =
    rw c.layout_number.ensures.result (layout_numbered c.args.wide)

pub shape_of-heads : goal.shape_of-heads
shape_of-heads c =
    c.basket_in.auto.heads

pub shape_of-next : goal.shape_of-next
shape_of-next c =
    c.basket_in.auto.next

pub shape_of-at : goal.shape_of-at
shape_of-at c =
    c.basket_in.auto.at

pub shape_of-words : goal.shape_of-words
shape_of-words c =
    c.basket_in.auto.words

pub returns : goal.returns
returns c =
    record { result = (rw (← c.layout_number.ensures.result) c.basket_in.ensures.result) }
