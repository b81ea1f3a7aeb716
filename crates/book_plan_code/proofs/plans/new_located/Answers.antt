-- Answers of `book_plan_code::plans::new_located`.
use borrow.Author.Rules.{rules}
use Rattle.prelude.proofs.Tests.{tests}
use Rattle.interface.specs.Set.{locate_says}
use Rattle.book.specs.Orders.{sent}
use Rattle.book.specs.inner.Courses.{plan_says, new_course}
use Rattle.book_plan_code.proofs.plans.new_located.Goals as goal

pub returns-then-quantity-eq0 : goal.returns-then-quantity-eq0
unfolding plan_says new_course locate_says sent
returns-then-quantity-eq0 c =
    rw c.in-Absent.is (search tests)

pub returns-in-At : goal.returns-in-At
unfolding plan_says new_course locate_says sent
returns-in-At c =
    rw c.in-At.is

pub returns-else-quantity-eq0 : goal.returns-else-quantity-eq0
unfolding plan_says new_course locate_says sent
returns-else-quantity-eq0 c =
    rw c.in-Absent.is (search tests)

pub returns-in-Refused : goal.returns-in-Refused
unfolding plan_says new_course locate_says sent
returns-in-Refused c =
    rw c.in-Refused.is
