-- Answers of `exports_answer_code::answer::write_answer`.
use mathlib.Core.Path.{refl}
use Rattle.interface.specs.Set.{change_says}
use Rattle.exports.specs.Call.{answered_with, returned_with}
use Rattle.exports_answer_code.proofs.answer.write_answer.Goals as goal

pub returns-in-Refused : goal.returns-in-Refused
unfolding returned_with answered_with change_says
returns-in-Refused c =
    record { result = rw (c.in-Refused.is, c.keep_state.ensures.result) (c.refused_with.ensures.result, refl, refl) }

pub returns-in-Absent : goal.returns-in-Absent
unfolding returned_with answered_with change_says
returns-in-Absent c =
    record { result = rw (c.in-Absent.is, c.keep_state.ensures.result) (refl, refl, refl) }

pub returns-in-Stored : goal.returns-in-Stored
unfolding returned_with answered_with change_says
returns-in-Stored c =
    record { result = rw (c.in-Stored.is, c.keep_state.ensures.result) (refl, refl, refl) }
