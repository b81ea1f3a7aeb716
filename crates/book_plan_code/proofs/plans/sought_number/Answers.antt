-- Answers of `book_plan_code::plans::sought_number`.
use Rattle.prelude.proofs.Tests.{tests}
use Rattle.book.specs.inner.Courses.{sought_number}
use Rattle.book_plan_code.proofs.plans.sought_number.Goals as goal

pub returns-then-number-eq23 : goal.returns-then-number-eq23
unfolding sought_number
returns-then-number-eq23 c =
    search tests

pub returns-else-number-eq23 : goal.returns-else-number-eq23
unfolding sought_number
returns-else-number-eq23 c =
    search tests
