-- Answers of `trace_code::stream::trace_byte`.
use Rattle.session.specs.Stream.{byte_result}
use Rattle.prelude.proofs.Tests.{tests}
use Rattle.trace_code.proofs.stream.trace_byte.Goals as goal

-- `trace_code::stream::trace_byte` meets its contract. Assumes nothing.
pub returns-then-byte-eq10 : goal.returns-then-byte-eq10
unfolding byte_result
returns-then-byte-eq10 c =
    record { stream = (search tests) }

pub returns : goal.returns
unfolding byte_result
returns c =
    record { stream = (search (tests, c.add_byte.ensures.stream)) }
