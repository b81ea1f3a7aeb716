-- Answers of `calls_basket_code::basket::basket_in`.
use mathlib.Core.Path.{refl}
use borrow.Author.Rules.{rules}
use Rattle.calls.proofs.BasketEnds.{basket_refused, ready_plan, basket_taken}
use Rattle.calls_basket_code.proofs.basket.basket_in.Goals as goal

pub shape_of-heads-then-p-ne0 : goal.shape_of-heads-then-p-ne0
shape_of-heads-then-p-ne0 c =
    refl

pub shape_of-next-then-p-ne0 : goal.shape_of-next-then-p-ne0
shape_of-next-then-p-ne0 c =
    refl

pub returns-then-p-ne0 : goal.returns-then-p-ne0
returns-then-p-ne0 c =
    record { result = (basket_refused _ _ _ _ _ c.args.state _ _ _ c.args.count _ (c.plan-p.ensures.result.fault_is _) c.if-p-ne0.true) }

pub store_basket-requires : goal.store_basket-requires
store_basket-requires c = (
  c.requires,
  ready_plan _ _ _ _ _ _ c.args.state _ _ _ _ _ c.if-p-ne0.false
      (c.plan-p.ensures.result.ready c.if-p-ne0.false),
)

pub shape_of-heads : goal.shape_of-heads
shape_of-heads c =
    c.store_basket.auto.heads

pub shape_of-next : goal.shape_of-next
shape_of-next c =
    c.store_basket.auto.next

pub shape_of-at : goal.shape_of-at
shape_of-at c =
    c.store_basket.auto.at

pub shape_of-words : goal.shape_of-words
shape_of-words c =
    c.store_basket.auto.words

pub returns : goal.returns
returns c =
    record {
      result = (basket_taken _ _ _ _ _ c.args.state _ _ _ _ _ _ (c.plan-p.ensures.result.fault_is _) c.if-p-ne0.false _
          c.store_basket.ensures);
    }
