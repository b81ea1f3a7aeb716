-- Answers of `recovery_scan_code::scanning::summary`.
use Rattle.recovery.proofs.Scans.{version_small, summed_valid, summed_empty, summed_broken}
use Rattle.recovery_scan_code.proofs.scanning.summary.Goals as goal

-- `recovery_scan_code::scanning::summary` meets its contract. Assumes nothing.
pub valid_summary-requires : goal.valid_summary-requires
valid_summary-requires c = (
  c.requires.0,
  c.requires.1,
  c.requires.2,
  version_small _ _ _ _ (λ i. (c.shared_slice_known-1.given i).fits) c.slot_verdict.ensures.result
      c.in-Valid.is,
)

pub returns-in-Valid : goal.returns-in-Valid
returns-in-Valid c =
    summed_valid _ _ _ _ _ c.slot_verdict.ensures.result _ c.mark_fault-mark.ensures.result _ c.in-Valid.is
    c.requires.0.layout _ c.valid_summary.ensures

pub returns-in-Empty : goal.returns-in-Empty
returns-in-Empty c =
    summed_empty _ _ _ _ _ c.slot_verdict.ensures.result _ c.mark_fault-mark.ensures.result c.in-Empty.is

pub returns-in-Broken : goal.returns-in-Broken
returns-in-Broken c =
    summed_broken _ _ _ _ _ c.slot_verdict.ensures.result _ c.mark_fault-mark.ensures.result _ c.in-Broken.is
