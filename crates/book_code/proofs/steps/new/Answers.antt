-- Answers of `book_code::steps::new`.
use Rattle.interface.proofs.SetLaws.{key_alone}
use Rattle.book.proofs.Courses.{new-result}
use Rattle.book_code.proofs.steps.new.Goals as goal

-- `book_code::steps::new` meets its contract. Assumes nothing.
pub returns : goal.returns
returns c =
    record { result = (rw (key_alone c.args.key) at (new-result _ _ _ _ _ _ _ _ c.carry_out_plan.ensures.result _ c.new_plan-plan.ensures.plan)) }
