-- Answers of `calls_basket_plan_code::sizes::basket_lent_fault`.
use Rattle.calls.specs.BasketRefusals.{basket_lent_fault}
use Rattle.calls.proofs.Lookups.{said, passed}
use Rattle.std.proofs.Common.{◌∙◌}
use Rattle.calls_basket_plan_code.proofs.sizes.basket_lent_fault.Goals as goal

-- `calls_basket_plan_code::sizes::basket_lent_fault` meets its contract. Assumes nothing.
pub returns-then-lent-ne0 : goal.returns-then-lent-ne0
unfolding basket_lent_fault
returns-then-lent-ne0 c =
    record { result = (λ values. said _ (c.return_code-lent.ensures.result ∙ c.check_lent.ensures.fault) c.if-lent-ne0.true) }

pub returns : goal.returns
unfolding basket_lent_fault
returns c =
    record { result = (λ values. passed (c.return_code-lent.ensures.result ∙ c.check_lent.ensures.fault) c.if-lent-ne0.false (c.sizes_fault.ensures values)) }
