-- Answers of `book_own_code::own::own_fill`.
use Rattle.interface.proofs.SetLaws.{key_alone}
use Rattle.book.proofs.Courses.{fill-result}
use Rattle.book_own_code.proofs.own.own_fill.Goals as goal

-- `book_own_code::own::own_fill` meets its contract. Assumes nothing.
pub returns : goal.returns
returns c =
    record { result = (rw (key_alone c.args.key) at (fill-result _ _ _ _ _ _ _ _ c.carry_out_plan.ensures.result _ c.fill_plan-plan.ensures.plan)) }
