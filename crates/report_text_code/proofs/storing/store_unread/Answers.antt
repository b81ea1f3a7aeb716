-- Answers of `report_text_code::storing::store_unread`.
use Rattle.report_text.proofs.Texts.{unread_read, unread_end, unread_left}
use Rattle.report_text_code.proofs.storing.store_unread.Goals as goal
use Rattle.report_text_code.proofs.storing.store_unread.Goals.{then-left-eq0-via-then-left-eq0, then-left-eq0-via-else-left-eq0+then-bytes-eq0}

-- `report_text_code::storing::store_unread` meets its contract. Assumes nothing.
pub returns-then-left-eq0 : goal.returns-then-left-eq0
returns-then-left-eq0 c =
    elim c.then-left-eq0.branch [
      | then-left-eq0-via-then-left-eq0 w ↦ record { result = unread_read _ _ _ _ w.if-left-eq0.true }
      | then-left-eq0-via-else-left-eq0+then-bytes-eq0 w ↦ record { result = unread_end _ _ _ _ w.if-left-eq0.false w.if-bytes-eq0.true }
    ]

pub returns : goal.returns
returns c =
    record { result = (unread_left _ _ _ _ c.if-left-eq0.false c.if-bytes-eq0.false _ _ c.store_refusal.ensures.result) }
