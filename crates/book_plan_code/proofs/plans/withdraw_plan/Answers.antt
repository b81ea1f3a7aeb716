-- Answers of `book_plan_code::plans::withdraw_plan`.
use mathlib.Core.Path.{sym, ap, ◌∙◌}
use borrow.Author.Rules.{rules}
use Rattle.book.specs.inner.Courses.{seek_says, plan_says, withdraw_course}
use Rattle.book_plan_code.proofs.plans.withdraw_plan.Goals as goal

-- `book_plan_code::plans::withdraw_plan` meets its contract. Assumes nothing.
pub returns-in-Found : goal.returns-in-Found
unfolding seek_says plan_says withdraw_course
returns-in-Found c =
    record { plan = (ap withdraw_course (sym (ap seek_says c.in-Found.is) ∙ c.seek_order-sought.ensures.order)) }

pub returns-in-Missing : goal.returns-in-Missing
unfolding seek_says plan_says withdraw_course
returns-in-Missing c =
    record { plan = (ap withdraw_course (sym (ap seek_says c.in-Missing.is) ∙ c.seek_order-sought.ensures.order)) }
