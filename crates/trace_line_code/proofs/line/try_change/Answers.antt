-- Answers of `trace_line_code::line::try_change`.
use mathlib.Core.Logic.{inl, inr}
use Rattle.interface.specs.Set.{change_says}
use Rattle.text.specs.inner.Output.{reply_says}
use Rattle.trace.specs.Step.{answer_counts}
use borrow.Author.Rules.{rules}
use Rattle.trace_line_code.proofs.line.try_change.Goals as goal

-- `trace_line_code::line::try_change` meets its contract. Assumes nothing.
pub returns-in-Stored : goal.returns-in-Stored
unfolding answer_counts change_says
returns-in-Stored c =
    record { counts = (rw c.in-Stored.is c.try_cuts.ensures.counts) }

pub returns-in-Absent : goal.returns-in-Absent
unfolding reply_says answer_counts change_says
returns-in-Absent c =
    elim c.in-Absent.is [ inl e ↦ record { counts = (search (rules, e)) } | inr (number, e) ↦ record { counts = (search (rules, e)) } ]
