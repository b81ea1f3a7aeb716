-- Answers of `log_code::reading::shown_cell`.
use Rattle.std.proofs.Common.{arith}
use Rattle.refusals.proofs.Numbers.{not_zero, handed_on}
use Rattle.message_log.proofs.Parts.{cells_by}
use Rattle.message_log.proofs.Readings.{read_no_area, read_accepted, read_not_shown}
use Rattle.log_code.proofs.reading.shown_cell.Goals as goal

pub returns-in_err-k-clause-fault : goal.returns-in_err-k-clause-fault
returns-in_err-k-clause-fault c = rw (handed_on _ _ c.from_residual.ensures.1) (read_no_area _ _ _ c.in_err-k.ensures.fault (not_zero _))

pub is_shown-requires : goal.is_shown-requires
is_shown-requires c = cells_by c.args.area.now _ c.in_ok-k.ensures.cells c.in_ok-k.ensures.fault

pub returns-then-not-is_shown-clause-fault : goal.returns-then-not-is_shown-clause-fault
returns-then-not-is_shown-clause-fault c =
    read_not_shown _ _ c.in_ok-k.ensures.fault _ c.in_ok-k.ensures.cells _ c.is_shown.ensures.result c.if-not-is_shown.true

pub nonzero_rem-result : goal.nonzero_rem-result
nonzero_rem-result c = omega (arith, (cells_by c.args.area.now _ c.in_ok-k.ensures.cells c.in_ok-k.ensures.fault).some)

pub returns-clause-fault : goal.returns-clause-fault
returns-clause-fault c = read_accepted _ _ c.in_ok-k.ensures.fault _ c.in_ok-k.ensures.cells _ c.is_shown.ensures.result c.if-not-is_shown.false
