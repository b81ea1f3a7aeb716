-- Answers of `book_change_code::layouts::new_in_layout`.
use borrow.Author.Rules.{rules}
use Rattle.book.proofs.Courses.{new-result}
use Rattle.book_change_code.proofs.layouts.new_in_layout.Goals as goal

-- `book_change_code::layouts::new_in_layout` meets its contract. Assumes nothing.
pub returns : goal.returns
returns c =
    record { result = (new-result _ _ _ _ _ _ _ _ c.carry_out_plan.ensures.result _ c.new_plan-plan.ensures.plan) }
