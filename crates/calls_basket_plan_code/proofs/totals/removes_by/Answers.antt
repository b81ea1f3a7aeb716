-- Answers of `calls_basket_plan_code::totals::removes_by`.
use borrow.Author.Rules.{rules}
use Rattle.prelude.proofs.Tests.{tests}
use Rattle.calls.specs.BasketRefusals.{removes_by}
use Rattle.calls_basket_plan_code.proofs.totals.removes_by.Goals as goal

pub returns-in-Write : goal.returns-in-Write
unfolding removes_by
returns-in-Write c =
    search tests

pub returns-in-Remove : goal.returns-in-Remove
unfolding removes_by
returns-in-Remove c =
    search tests
