-- Answers of `book_code::steps::acknowledge2`.
use Rattle.book.proofs.Courses.{acknowledge-result}
use Rattle.book_code.proofs.steps.acknowledge2.Goals as goal

-- `book_code::steps::acknowledge2` meets its contract. Assumes nothing.
pub returns : goal.returns
returns c =
    record { result = (acknowledge-result _ _ _ _ _ _ _ _ c.carry_out_plan.ensures.result c.acknowledge_plan-plan.ensures.plan) }
