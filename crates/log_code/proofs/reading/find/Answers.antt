-- Answers of `log_code::reading::find`.
use Rattle.message_log.specs.Read.{part_says}
use Rattle.message_log.proofs.Readings.{find_handed, part_readable, find_taken}
use Rattle.log_code.proofs.reading.find.Goals as goal

pub returns-in_err-c : goal.returns-in_err-c
returns-in_err-c c = record { result = find_handed _ _ _ c.in_err-c.ensures.fault _ c.from_residual.ensures.1 }

pub part_in-requires : goal.part_in-requires
part_in-requires c = part_readable _ _ c.in_ok-c.ensures.fault _ c.in_ok-c.ensures.cell

pub returns : goal.returns
unfolding part_says
returns c = record { result = find_taken _ _ c.in_ok-c.ensures.fault _ c.in_ok-c.ensures.cell _ c.part_in.ensures }
