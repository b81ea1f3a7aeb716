-- Answers of `orderset_c::recover::orderset_proved_recover`.
use borrow.Author.Rules.{rules}
use Rattle.orderset_c.proofs.recover.orderset_proved_recover.Goals as goal

-- `orderset_c::recover::orderset_proved_recover` meets its contract. Assumes nothing.
pub returns : goal.returns
returns c =
    record { result = (rw (← c.recover-answer.ensures.result) (c.write_answer_recovered.ensures.result _ _)) }
