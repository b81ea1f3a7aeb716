-- Answers of `exports_answer_code::answer::write_answer_located`.
use mathlib.Core.Path.{refl}
use Rattle.interface.specs.Set.{locate_says}
use Rattle.exports.specs.Call.{answered_with, returned_with}
use Rattle.exports_answer_code.proofs.answer.write_answer_located.Goals as goal

pub returns-in-Refused : goal.returns-in-Refused
unfolding returned_with answered_with locate_says
returns-in-Refused c =
    record { result = rw c.in-Refused.is (c.refused_with.ensures.result, refl) }

pub returns-in-Absent : goal.returns-in-Absent
unfolding returned_with answered_with locate_says
returns-in-Absent c =
    record { result = rw c.in-Absent.is (refl, refl) }

pub returns-in-At : goal.returns-in-At
unfolding returned_with answered_with locate_says
returns-in-At c =
    record { result = rw c.in-At.is (refl, refl) }
