-- What a recovery leaves and answers: the result of recover, and the classes of the slots.
use Rattle.std.specs.Prelude.{◌≡◌, List, ℕ, length}
use Rattle.layout.specs.Size.{slots_in}
use Rattle.layout.specs.Content.{contents_of}
use Rattle.recovery.specs.Recover.{recover_end, recover_fault, recover_result}
use Rattle.recovery.specs.inner.Scan.{Classed}
use Rattle.recovery.specs.declared.RecoveryReport.{RecoveryReport}

-- heads and next were lent, and heads' and next' are left; the slots of an image that is not refused are counted
pub record RecoveredWith (l : ℕ) (image heads next heads' next' : List ℕ) (r : RecoveryReport) : Type 0 where
  pub result_is : recover_end r.answer.recovered r.answer.invalidations heads' next' ≡ recover_result l image heads next
  pub classed : recover_fault l image (length heads) (length next) ≡ 0 → Classed (contents_of l image) (slots_in image) r.classes
