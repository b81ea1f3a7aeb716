-- Answers of `log_code::reading::read`.
use Rattle.message_log.specs.Read.{read_says}
use Rattle.message_log.proofs.Readings.{read_handed, part_readable, part_taken}
use Rattle.log_code.proofs.reading.read.Goals as goal

pub returns-in_err-c : goal.returns-in_err-c
returns-in_err-c c = record { result = read_handed _ _ _ c.in_err-c.ensures.fault _ _ c.from_residual.ensures.1 }

pub message_part-part-requires : goal.message_part-part-requires
message_part-part-requires c = part_readable _ _ c.in_ok-c.ensures.fault _ c.in_ok-c.ensures.cell

pub returns : goal.returns
unfolding read_says
returns c = record { result = part_taken _ _ c.in_ok-c.ensures.fault _ c.in_ok-c.ensures.cell _ c.message_part-part.ensures }
