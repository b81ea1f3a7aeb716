-- Answers of `book_code::steps::withdraw2`.
use Rattle.book.proofs.Courses.{withdraw-result}
use Rattle.book_code.proofs.steps.withdraw2.Goals as goal

-- `book_code::steps::withdraw2` meets its contract. Assumes nothing.
pub returns : goal.returns
returns c =
    record { result = (withdraw-result _ _ _ _ _ _ _ _ c.carry_out_plan.ensures.result c.withdraw_plan-plan.ensures.plan) }
