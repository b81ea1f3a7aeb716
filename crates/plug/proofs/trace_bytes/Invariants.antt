-- What is left of the bytes that `plug::trace_bytes` was given leaves what all of them do.
use Rattle.std.proofs.Common.{length}
use Rattle.session.specs.Stream.{stream_end}
use Rattle.session.proofs.Readings.{Reading}
use Rattle.trace.specs.Step.{trace_result}
use Rattle.plug.proofs.trace_bytes.Given as goal

abbrev pub invariant-loop-byte : goal.invariant-loop-byte
invariant-loop-byte g l =
    Reading (trace_result (length l.initial.copy) (length l.initial.later)) l.input
    (stream_end l.initial.progress l.initial.image l.initial.heads l.initial.next l.initial.out)
    l.byte-index l.progress l.image l.heads l.next l.out
