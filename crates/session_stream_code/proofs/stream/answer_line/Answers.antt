-- Answers of `session_stream_code::stream::answer_line`.
use Rattle.session.specs.Stream.{answer_result, answered_by, printed_by}
use Rattle.session_stream_code.proofs.stream.answer_line.Goals as goal

pub returns : goal.returns
unfolding answer_result answered_by printed_by
returns c =
    record { stream = (rw (← c.finish.ensures.result, ← c.step-reply.ensures.result, ← c.render.ensures.result)) }
