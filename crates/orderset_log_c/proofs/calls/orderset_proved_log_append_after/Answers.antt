-- Answers of `orderset_log_c::calls::orderset_proved_log_append_after`.
use Rattle.prelude.specs.Answer.{refusal_in, given_or}
use Rattle.message_log.specs.LogOutcome.{log_answer}
use Rattle.log_exports.specs.Call.{hand_call}
use Rattle.orderset_log_c.proofs.calls.orderset_proved_log_append_after.Goals as goal

pub returns-in-Err : goal.returns-in-Err
unfolding refusal_in given_or log_answer hand_call
returns-in-Err c = record { result = rw (c.code.ensures.result, ← c.append_after.ensures.result, c.in-Err.is) }

pub returns-in-Ok : goal.returns-in-Ok
unfolding refusal_in given_or log_answer hand_call
returns-in-Ok c = record { result = rw (← c.append_after.ensures.result, c.in-Ok.is) }
