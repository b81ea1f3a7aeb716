-- Answers of `session_stream_code::stream::open_stream`.
use Rattle.session.specs.Stream.{at_start}
use Rattle.session_stream_code.proofs.stream.open_stream.Goals as goal

pub returns : goal.returns
unfolding at_start
returns c =
    record { stream = (rw c.empty_session.ensures.result) }
