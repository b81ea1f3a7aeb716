-- Answers of `orderset_log_c::calls::orderset_proved_log_read`.
use Rattle.prelude.specs.Answer.{refusal_in, given_or}
use Rattle.message_log.specs.Read.{part_says}
use Rattle.log_exports.specs.Call.{part_call}
use Rattle.orderset_log_c.proofs.calls.orderset_proved_log_read.Goals as goal

pub returns-in-Err : goal.returns-in-Err
unfolding refusal_in given_or part_says part_call
returns-in-Err c = record { result = rw (c.code.ensures.result, ← c.find.ensures.result, c.in-Err.is) }

pub returns-in-Ok : goal.returns-in-Ok
unfolding refusal_in given_or part_says part_call
returns-in-Ok c = record { result = rw (← c.find.ensures.result, c.in-Ok.is) }
