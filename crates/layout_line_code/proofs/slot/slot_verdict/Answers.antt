-- Answers of `layout_line_code::slot::slot_verdict`.
use Rattle.layout.proofs.Verdicts.{judged_slot}
use Rattle.layout_line_code.proofs.slot.slot_verdict.Goals as goal

pub returns : goal.returns
returns c =
    record { result = (search judged_slot) }
