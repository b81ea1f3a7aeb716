-- Answers of `book_plan_code::plans::fill_order`.
use borrow.Author.Rules.{rules}
use Rattle.prelude.specs.Refusal.{refuse_if, unless_refused}
use Rattle.prelude.proofs.Tests.{tests}
use Rattle.book.specs.Orders.{filled_by}
use Rattle.book.specs.Steps.{quantity_fault}
use Rattle.book.specs.inner.Courses.{plan_says, fill_order}
use Rattle.book_plan_code.proofs.plans.fill_order.Goals as goal
use Rattle.book_plan_code.proofs.plans.fill_order.Goals.{then-quantity-eq0-via-then-quantity-eq0, then-quantity-eq0-via-else-quantity-eq0+then-open-quantity}

pub returns-then-quantity-eq0 : goal.returns-then-quantity-eq0
unfolding plan_says fill_order quantity_fault refuse_if unless_refused filled_by
returns-then-quantity-eq0 c =
    elim c.then-quantity-eq0.branch [
      | then-quantity-eq0-via-then-quantity-eq0 w ↦ search tests
      | then-quantity-eq0-via-else-quantity-eq0+then-open-quantity w ↦ search tests
    ]

pub returns-then-quantity-open : goal.returns-then-quantity-open
unfolding plan_says fill_order quantity_fault refuse_if unless_refused filled_by
returns-then-quantity-open c =
    search tests

pub returns : goal.returns
unfolding plan_says fill_order quantity_fault refuse_if unless_refused filled_by
returns c =
    search tests
