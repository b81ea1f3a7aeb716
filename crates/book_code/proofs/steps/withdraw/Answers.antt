-- Answers of `book_code::steps::withdraw`.
use borrow.Author.Rules.{rules}
use Rattle.interface.proofs.SetLaws.{key_alone}
use Rattle.book.proofs.Courses.{withdraw-result}
use Rattle.book_code.proofs.steps.withdraw.Goals as goal

-- `book_code::steps::withdraw` meets its contract. Assumes nothing.
pub returns : goal.returns
returns c =
    record { result = (rw (key_alone c.args.key) at (withdraw-result _ _ _ _ _ _ _ _ c.carry_out_plan.ensures.result (search rules))) }
