-- `console::take_bytes`: one byte more, and none left.
use Rattle.session.proofs.Readings.{read_more, read_done}
use Rattle.console.proofs.take_bytes.Goals as goal

pub loop-byte-preserved : goal.loop-byte-preserved
loop-byte-preserved c =
    read_more _ _ _ _ _ _ _ _ _ _ _ _ _ _ _ c.loop-byte.invariant c.loop-byte-test.true c.take_byte.ensures.stream c.after_byte.ensures.progress

pub returns-clause-stream : goal.returns-clause-stream
returns-clause-stream c =
    read_done _ _ _ _ _ _ _ _ _ _ c.loop-byte.invariant c.loop-byte-test.false c.flush.ensures.progress
