-- Answers of `session_code::lines::write_key`.
use mathlib.Core.Logic.{inl, inr}
use mathlib.Core.Path.{ap}
use Rattle.interface.specs.Set.{locate_says, ReadOnlyResult}
use Rattle.session.specs.Step.{word_bytes, mode_by}
use Rattle.session_code.proofs.lines.write_key.Goals as goal

pub shape_of-heads-in-At : goal.shape_of-heads-in-At
shape_of-heads-in-At c =
    c.replace.auto.heads

pub shape_of-next-in-At : goal.shape_of-next-in-At
shape_of-next-in-At c =
    c.replace.auto.next

pub returns-in-At : goal.returns-in-At
unfolding word_bytes mode_by locate_says
returns-in-At c =
    record {
      result = (rw (
        ← (ap (λ (x : ReadOnlyResult). x.answer) c.locate.ensures.result),
        c.in-At.is,
        ← c.write_word.ensures.result,
      ) (c.replace.ensures.result));
    }

pub shape_of-heads-in-Absent : goal.shape_of-heads-in-Absent
shape_of-heads-in-Absent c =
    c.insert.auto.heads

pub shape_of-next-in-Absent : goal.shape_of-next-in-Absent
shape_of-next-in-Absent c =
    c.insert.auto.next

pub returns-in-Absent : goal.returns-in-Absent
unfolding word_bytes mode_by locate_says
returns-in-Absent c =
    let answer = ap (λ (x : ReadOnlyResult). x.answer) c.locate.ensures.result in
    elim c.in-Absent.is [
      | inl e ↦ record { result = (rw (← answer, e, ← c.write_word.ensures.result) (c.insert.ensures.result)) }
      | inr (number, e) ↦ record { result = (rw (← answer, e, ← c.write_word.ensures.result) (c.insert.ensures.result)) }
    ]
