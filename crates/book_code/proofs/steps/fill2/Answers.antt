-- Answers of `book_code::steps::fill2`.
use Rattle.book.proofs.Courses.{fill-result}
use Rattle.book_code.proofs.steps.fill2.Goals as goal

-- `book_code::steps::fill2` meets its contract. Assumes nothing.
pub returns : goal.returns
returns c =
    record { result = (fill-result _ _ _ _ _ _ _ _ c.carry_out_plan.ensures.result _ c.fill_plan-plan.ensures.plan) }
