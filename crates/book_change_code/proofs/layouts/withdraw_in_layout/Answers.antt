-- Answers of `book_change_code::layouts::withdraw_in_layout`.
use borrow.Author.Rules.{rules}
use Rattle.book.proofs.Courses.{withdraw-result}
use Rattle.book_change_code.proofs.layouts.withdraw_in_layout.Goals as goal

-- `book_change_code::layouts::withdraw_in_layout` meets its contract. Assumes nothing.
pub returns : goal.returns
returns c =
    record { result = (withdraw-result _ _ _ _ _ _ _ _ c.carry_out_plan.ensures.result c.withdraw_plan-plan.ensures.plan) }
