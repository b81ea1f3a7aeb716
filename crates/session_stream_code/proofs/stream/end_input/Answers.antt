-- Answers of `session_stream_code::stream::end_input`.
use Rattle.prelude.proofs.Choice.{pick_true, pick_false}
use Rattle.session.specs.Stream.{end_result}
use borrow.Author.Rules.{rules}
use Rattle.session_stream_code.proofs.stream.end_input.Goals as goal

pub returns-then-s : goal.returns-then-s
unfolding end_result
returns-then-s c =
    record { stream = (search (rules, pick_true)) }

pub returns : goal.returns
unfolding end_result
returns c =
    record { stream = (search (rules, pick_false)) }
