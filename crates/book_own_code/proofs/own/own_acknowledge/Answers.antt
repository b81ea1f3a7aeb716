-- Answers of `book_own_code::own::own_acknowledge`.
use Rattle.interface.proofs.SetLaws.{key_alone}
use Rattle.book.proofs.Courses.{acknowledge-result}
use Rattle.book_own_code.proofs.own.own_acknowledge.Goals as goal

-- `book_own_code::own::own_acknowledge` meets its contract. Assumes nothing.
pub returns : goal.returns
returns c =
    record { result = (rw (key_alone c.args.key) at (acknowledge-result _ _ _ _ _ _ _ _ c.carry_out_plan.ensures.result c.acknowledge_plan-plan.ensures.plan)) }
