-- Answers of `orderset_c::count::orderset_proved_count_slots`.
use borrow.Author.Rules.{rules}
use Rattle.orderset_c.proofs.count.orderset_proved_count_slots.Goals as goal

-- `orderset_c::count::orderset_proved_count_slots` meets its contract. Assumes nothing.
pub returns : goal.returns
returns c =
    record { result = (rw (← c.count_slots-answer.ensures.result) (c.write_answer_counted.ensures.result _ _)) }
