-- Answers of `book_plan_code::plans::already_located`.
use borrow.Author.Rules.{rules}
use Rattle.interface.specs.Set.{locate_says}
use Rattle.book.specs.inner.Courses.{plan_says, already_course}
use Rattle.book_plan_code.proofs.plans.already_located.Goals as goal

pub returns-in-At : goal.returns-in-At
unfolding plan_says already_course locate_says
returns-in-At c =
    rw c.in-At.is

pub returns-in-Absent : goal.returns-in-Absent
unfolding plan_says already_course locate_says
returns-in-Absent c =
    rw c.in-Absent.is

pub returns-in-Refused : goal.returns-in-Refused
unfolding plan_says already_course locate_says
returns-in-Refused c =
    rw c.in-Refused.is
