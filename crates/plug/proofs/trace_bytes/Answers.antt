-- `plug::trace_bytes`: one byte more, and none left.
use Rattle.std.proofs.Common.{◌≡◌, ℕ, List, ◌∙◌, ap₂}
use Rattle.session.specs.Stream.{StreamResult, byte_result}
use Rattle.session.specs.declared.Progress.{Progress}
use Rattle.session.proofs.Readings.{read_more, read_done}
use Rattle.trace.specs.Step.{trace_result}
use Rattle.plug.proofs.trace_bytes.Goals as goal

-- the two slices that the cuts are tried in keep their lengths
by_lengths : (copy later copy' later' : ℕ) (s : Progress) (byte : ℕ) (image heads next out : List ℕ) (r : StreamResult) → copy ≡ copy' → later ≡ later'
    → r ≡ byte_result (trace_result copy later) s byte image heads next out → r ≡ byte_result (trace_result copy' later') s byte image heads next out
by_lengths copy later copy' later' s byte image heads next out r c d e =
    e ∙ ap₂ (λ (x y : ℕ). byte_result (trace_result x y) s byte image heads next out) c d

pub loop-byte-preserved : goal.loop-byte-preserved
loop-byte-preserved g c =
    read_more _ _ _ _ _ _ _ _ _ _ _ _ _ _ _ c.loop-byte.invariant c.loop-byte-test.true
    (by_lengths _ _ _ _ _ _ _ _ _ _ _ c.loop-byte.auto.copy c.loop-byte.auto.later c.trace_byte.ensures.stream) c.after_byte.ensures.progress

pub returns-clause-stream : goal.returns-clause-stream
returns-clause-stream g c =
    read_done _ _ _ _ _ _ _ _ _ _ c.loop-byte.invariant c.loop-byte-test.false c.flush.ensures.progress
