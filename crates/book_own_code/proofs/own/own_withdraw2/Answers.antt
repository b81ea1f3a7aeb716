-- Answers of `book_own_code::own::own_withdraw2`.
use Rattle.book.proofs.Courses.{withdraw-result}
use Rattle.book_own_code.proofs.own.own_withdraw2.Goals as goal

-- `book_own_code::own::own_withdraw2` meets its contract. Assumes nothing.
pub returns : goal.returns
returns c =
    record { result = (withdraw-result _ _ _ _ _ _ _ _ c.carry_out_plan.ensures.result c.withdraw_plan-plan.ensures.plan) }
