-- Answers of `exports_answer_code::answer::write_answer_step`.
use mathlib.Core.Path.{refl}
use Rattle.book.specs.Steps.{book_says}
use Rattle.book.specs.Plain.{refusal_number}
use Rattle.exports.specs.Book.{book_answered}
use Rattle.exports_answer_code.proofs.answer.write_answer_step.Goals as goal

pub returns-in-Refused : goal.returns-in-Refused
unfolding refusal_number book_answered book_says
returns-in-Refused c =
    record { result = rw (c.in-Refused.is, c.keep_state.ensures.result) (refl, refl, refl) }

pub returns-in-Already : goal.returns-in-Already
unfolding refusal_number book_answered book_says
returns-in-Already c =
    record { result = rw (c.in-Already.is, c.keep_state.ensures.result) (refl, refl, refl) }

pub returns-in-Stored : goal.returns-in-Stored
unfolding refusal_number book_answered book_says
returns-in-Stored c =
    record { result = rw (c.in-Stored.is, c.keep_state.ensures.result) (refl, refl, refl) }
