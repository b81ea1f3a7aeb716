-- Answers of `exports_answer_code::answer::write_answer_got`.
use mathlib.Core.Path.{refl}
use Rattle.interface.specs.Set.{get_says}
use Rattle.exports.specs.Call.{answered_with, returned_with}
use Rattle.exports_answer_code.proofs.answer.write_answer_got.Goals as goal

pub returns-in-Refused : goal.returns-in-Refused
unfolding returned_with answered_with get_says
returns-in-Refused c =
    record { result = rw c.in-Refused.is (c.refused_with.ensures.result, refl) }

pub returns-in-Absent : goal.returns-in-Absent
unfolding returned_with answered_with get_says
returns-in-Absent c =
    record { result = rw c.in-Absent.is (refl, refl) }

pub returns-in-Length : goal.returns-in-Length
unfolding returned_with answered_with get_says
returns-in-Length c =
    record { result = rw c.in-Length.is (refl, refl) }
