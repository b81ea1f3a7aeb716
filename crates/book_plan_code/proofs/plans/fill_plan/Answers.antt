-- Answers of `book_plan_code::plans::fill_plan`.
use mathlib.Core.Path.{sym, ap, ◌∙◌}
use borrow.Author.Rules.{rules}
use Rattle.book.specs.inner.Courses.{seek_says, plan_says, fill_course}
use Rattle.book.proofs.Seeks.{seek_sound}
use Rattle.book_plan_code.proofs.plans.fill_plan.Goals as goal

pub fill_order-requires : goal.fill_order-requires
unfolding seek_says
fill_order-requires c =
    seek_sound _ _ _ _ _ _ (sym (ap seek_says c.in-Found.is) ∙ c.seek_order-sought.ensures.order)

pub returns-in-Found : goal.returns-in-Found
unfolding seek_says fill_course
returns-in-Found c =
    record { plan = (c.fill_order.ensures ∙ ap (fill_course _) (sym (ap seek_says c.in-Found.is) ∙ c.seek_order-sought.ensures.order)) }

pub returns-in-Missing : goal.returns-in-Missing
unfolding seek_says plan_says fill_course
returns-in-Missing c =
    record { plan = (ap (fill_course c.args.quantity) (sym (ap seek_says c.in-Missing.is) ∙ c.seek_order-sought.ensures.order)) }
