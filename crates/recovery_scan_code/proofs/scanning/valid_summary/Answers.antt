-- Answers of `recovery_scan_code::scanning::valid_summary`.
use Rattle.std.proofs.Common.{◌∙◌}
use Rattle.recovery.proofs.Scans.{valid_is}
use Rattle.recovery_scan_code.proofs.scanning.valid_summary.Goals as goal

-- `recovery_scan_code::scanning::valid_summary` meets its contract. Assumes nothing.
pub returns : goal.returns
returns c =
    valid_is _ _ _ _ _ _ _ _ _ _ _ c.requires.0.layout c.slot_low-low.ensures.result c.slot_high.ensures.result
    c.slot_kind.ensures.result c.record_place-place.ensures
    (c.return_code.ensures.result ∙ c.check_record.ensures.result)
