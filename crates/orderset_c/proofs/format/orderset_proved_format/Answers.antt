-- Answers of `orderset_c::format::orderset_proved_format`.
use borrow.Author.Rules.{rules}
use Rattle.orderset_c.proofs.format.orderset_proved_format.Goals as goal

-- `orderset_c::format::orderset_proved_format` meets its contract. Assumes nothing.
pub returns : goal.returns
returns c =
    record { result = (rw (← c.format-formatted.ensures.result) (c.write_answer_formatted.ensures.result _)) }
