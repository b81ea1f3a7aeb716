-- Answers of `session_code::lines::carry_change`.
use Rattle.interface.specs.Set.{change_says}
use Rattle.text.specs.inner.Output.{reply_says}
use Rattle.session.specs.Step.{change_step, changed_as}
use borrow.Author.Rules.{rules}
use Rattle.session_code.proofs.lines.carry_change.Goals as goal

pub returns-in-Stored : goal.returns-in-Stored
unfolding change_step changed_as change_says reply_says
returns-in-Stored c =
    record { result = (search (rules, c.in-Stored.is)) }

pub returns-in-Absent : goal.returns-in-Absent
unfolding change_step changed_as change_says reply_says
returns-in-Absent c =
    record { result = (search (rules, c.in-Absent.is)) }

pub returns-in-Refused : goal.returns-in-Refused
unfolding change_step changed_as change_says reply_says
returns-in-Refused c =
    record { result = (search (rules, c.in-Refused.is)) }
