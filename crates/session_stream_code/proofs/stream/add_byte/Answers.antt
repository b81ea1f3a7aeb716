-- Answers of `session_stream_code::stream::add_byte`.
use Rattle.session.specs.Stream.{with_byte}
use borrow.Author.Rules.{rules}
use Rattle.session_stream_code.proofs.stream.add_byte.Goals as goal

pub returns : goal.returns
unfolding with_byte
returns c =
    record { stream = (search (rules, c.feed.ensures.result)) }
