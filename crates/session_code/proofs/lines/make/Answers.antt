-- Answers of `session_code::lines::make`.
use Rattle.interface.specs.Set.{format_says}
use Rattle.text.specs.inner.Output.{reply_says}
use Rattle.session.specs.Step.{make_step, made_by, made_as}
use borrow.Author.Rules.{rules}
use Rattle.session_code.proofs.lines.make.Goals as goal

-- `session_code::lines::make` meets its contract. Assumes nothing.
pub returns-in-Slots : goal.returns-in-Slots
unfolding make_step made_by made_as format_says reply_says
returns-in-Slots c =
    record { result = (search (rules, ← c.format.ensures.result, c.in-Slots.is)) }

pub returns-in-Refused : goal.returns-in-Refused
unfolding make_step made_by made_as format_says reply_says
returns-in-Refused c =
    record { result = (search (rules, ← c.format.ensures.result, c.in-Refused.is)) }
