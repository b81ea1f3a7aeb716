-- Answers of `calls_basket_plan_code::given::item_has_key`.
use mathlib.Core.Path.{◌∙◌}
use borrow.Author.Rules.{rules}
use borrow.Author.Tests.{ne_eqb}
use Rattle.calls.proofs.BasketChecks.{other_item, same_item}
use Rattle.calls_basket_plan_code.proofs.given.item_has_key.Goals as goal

pub returns-then-item-low : goal.returns-then-item-low
returns-then-item-low c =
    same_item _ _ _ _ (search rules) c.ranges.low.fits _ c.if-item-low.true c.high_in.ensures.result

pub returns-else-item-low : goal.returns-else-item-low
returns-else-item-low c =
    ne_eqb _ _ c.if-item-low.false ∙ other_item _ _ _ _ (search rules) c.ranges.low.fits c.if-item-low.false
