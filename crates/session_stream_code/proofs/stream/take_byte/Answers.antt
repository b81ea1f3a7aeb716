-- Answers of `session_stream_code::stream::take_byte`.
use Rattle.session.specs.Stream.{byte_result}
use Rattle.prelude.proofs.Tests.{tests}
use Rattle.session_stream_code.proofs.stream.take_byte.Goals as goal

pub returns-then-byte-eq10 : goal.returns-then-byte-eq10
unfolding byte_result
returns-then-byte-eq10 c =
    record { stream = (search tests) }

pub returns : goal.returns
unfolding byte_result
returns c =
    record { stream = (search (tests, c.add_byte.ensures.stream)) }
