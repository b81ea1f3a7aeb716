-- Answers of `orderset2_c::recover::orderset2_proved_recover`.
use borrow.Author.Rules.{rules}
use Rattle.orderset2_c.proofs.recover.orderset2_proved_recover.Goals as goal

-- `orderset2_c::recover::orderset2_proved_recover` meets its contract. Assumes nothing.
pub returns : goal.returns
returns c =
    record { result = (rw (← c.recover2-answer.ensures.result) (c.write_answer_recovered.ensures.result _ _)) }
