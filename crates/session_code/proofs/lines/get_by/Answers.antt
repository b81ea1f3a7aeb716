-- Answers of `session_code::lines::get_by`.
use Rattle.interface.specs.Set.{get_says}
use Rattle.text.specs.inner.Output.{reply_says}
use Rattle.session.specs.Step.{got_by, got_as}
use borrow.Author.Rules.{rules}
use Rattle.session_code.proofs.lines.get_by.Goals as goal

-- `session_code::lines::get_by` meets its contract. Assumes nothing.
pub returns-in-Length : goal.returns-in-Length
unfolding got_by got_as get_says reply_says
returns-in-Length c =
    search (rules, ← c.get.ensures.result, c.in-Length.is, c.padded_word.ensures.result)

pub returns-in-Absent : goal.returns-in-Absent
unfolding got_by got_as get_says reply_says
returns-in-Absent c =
    search (rules, ← c.get.ensures.result, c.in-Absent.is)

pub returns-in-Refused : goal.returns-in-Refused
unfolding got_by got_as get_says reply_says
returns-in-Refused c =
    search (rules, ← c.get.ensures.result, c.in-Refused.is)
