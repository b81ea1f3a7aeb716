-- Answers of `trace_code::stream::trace_end`.
use Rattle.prelude.proofs.Choice.{pick_true, pick_false}
use Rattle.session.specs.Stream.{end_result}
use borrow.Author.Rules.{rules}
use Rattle.trace_code.proofs.stream.trace_end.Goals as goal

-- `trace_code::stream::trace_end` meets its contract. Assumes nothing.
pub returns-then-s : goal.returns-then-s
unfolding end_result
returns-then-s c =
    record { stream = (search (rules, pick_true)) }

pub returns : goal.returns
unfolding end_result
returns c =
    record { stream = (search (rules, pick_false)) }
