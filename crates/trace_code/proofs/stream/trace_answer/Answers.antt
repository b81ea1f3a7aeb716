-- Answers of `trace_code::stream::trace_answer`.
use Rattle.session.specs.Stream.{answer_result, answered_by, printed_by}
use Rattle.trace_code.proofs.stream.trace_answer.Goals as goal

-- `trace_code::stream::trace_answer` meets its contract. Assumes nothing.
pub returns : goal.returns
unfolding answer_result answered_by printed_by
returns c =
    record { stream = (rw (← c.finish.ensures.result, ← c.trace_step-reply.ensures.step, ← c.render.ensures.result)) }
