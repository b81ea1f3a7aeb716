-- Answers of `book_own_code::own::own_fill2`.
use Rattle.book.proofs.Courses.{fill-result}
use Rattle.book_own_code.proofs.own.own_fill2.Goals as goal

-- `book_own_code::own::own_fill2` meets its contract. Assumes nothing.
pub returns : goal.returns
returns c =
    record { result = (fill-result _ _ _ _ _ _ _ _ c.carry_out_plan.ensures.result _ c.fill_plan-plan.ensures.plan) }
