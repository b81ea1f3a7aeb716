-- Answers of `book_code::steps::new2`.
use Rattle.book.proofs.Courses.{new-result}
use Rattle.book_code.proofs.steps.new2.Goals as goal

-- `book_code::steps::new2` meets its contract. Assumes nothing.
pub returns : goal.returns
returns c =
    record { result = (new-result _ _ _ _ _ _ _ _ c.carry_out_plan.ensures.result _ c.new_plan-plan.ensures.plan) }
