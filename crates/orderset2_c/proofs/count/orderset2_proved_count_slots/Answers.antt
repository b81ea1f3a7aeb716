-- Answers of `orderset2_c::count::orderset2_proved_count_slots`.
use borrow.Author.Rules.{rules}
use Rattle.orderset2_c.proofs.count.orderset2_proved_count_slots.Goals as goal

-- `orderset2_c::count::orderset2_proved_count_slots` meets its contract. Assumes nothing.
pub returns : goal.returns
returns c =
    record { result = (rw (← c.count_slots2-answer.ensures.result) (c.write_answer_counted.ensures.result _ _)) }
