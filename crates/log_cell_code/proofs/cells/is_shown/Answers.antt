-- Answers of `log_cell_code::cells::is_shown`.
use native.Mathlib.Nat.{mod-lt}
use native.Mathlib.Omega.{arith}
use Rattle.message_log.proofs.CellWords.{shown_zero, shown_high, shown_old, shown_by}
use Rattle.log_cell_code.proofs.cells.is_shown.Goals as goal
use Rattle.log_cell_code.proofs.cells.is_shown.Goals.{then-number-eq0-via-then-number-eq0, then-number-eq0-via-else-number-eq0+then-top-number}
use Rattle.log_cell_code.proofs.cells.is_shown.Goals.{then-number-eq0-via-else-number-eq0+else-top-number+then-k-top}

pub returns-then-number-eq0 : goal.returns-then-number-eq0
returns-then-number-eq0 c =
    let top_is = c.highest_number-top.ensures.result in
    elim c.then-number-eq0.branch [
      | then-number-eq0-via-then-number-eq0 w ↦ record { result = shown_zero _ _ _ _ top_is w.if-number-eq0.true }
      | then-number-eq0-via-else-number-eq0+then-top-number w ↦ record { result = shown_high _ _ _ _ top_is w.if-top-number.true }
      | then-number-eq0-via-else-number-eq0+else-top-number+then-k-top w ↦ record { result = shown_old _ _ _ _ top_is w.if-k-top.true }
    ]

pub number_in-requires : goal.number_in-requires
number_in-requires c =
    record { all = c.requires; one = mod-lt c.args.number (omega arith) }

pub returns : goal.returns
returns c =
    record {
      result = (shown_by _ _ _ _ c.highest_number-top.ensures.result
          c.if-number-eq0.false c.if-top-number.false c.if-k-top.false _ c.number_in.ensures);
    }
