-- Answers of `calls_basket_plan_code::sizes::value_size_fault`.
use Rattle.calls.proofs.BasketChecks.{written_long, written_fits, removed_fits}
use borrow.Author.Rules.{rules}
use Rattle.calls_basket_plan_code.proofs.sizes.value_size_fault.Goals as goal

-- `calls_basket_plan_code::sizes::value_size_fault` meets its contract. Assumes nothing.
pub value_limit-requires : goal.value_limit-requires
value_limit-requires c =
    c.requires.high

pub returns-then-value_limit-size : goal.returns-then-value_limit-size
returns-then-value_limit-size c =
    written_long _ _ _ _ c.in-Write.is _ c.value_limit.ensures.result c.if-value_limit-size.true

pub returns-else-value_limit-size : goal.returns-else-value_limit-size
returns-else-value_limit-size c =
    written_fits _ _ _ _ c.in-Write.is _ c.value_limit.ensures.result c.if-value_limit-size.false

pub returns-in-Remove : goal.returns-in-Remove
returns-in-Remove c =
    removed_fits _ _ _ c.in-Remove.is
