-- What is left of the bytes that `console::take_bytes` was given leaves what all of them do.
use Rattle.session.specs.Step.{step_result}
use Rattle.session.specs.Stream.{stream_end}
use Rattle.session.proofs.Readings.{Reading}
use Rattle.console.proofs.take_bytes.Given as goal

abbrev pub invariant-loop-byte : goal.invariant-loop-byte
invariant-loop-byte l =
    Reading step_result l.input (stream_end l.initial.progress l.initial.image l.initial.heads l.initial.next l.initial.out)
    l.byte-index l.progress l.image l.heads l.next l.out
