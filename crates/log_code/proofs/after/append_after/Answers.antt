-- Answers of `log_code::after::append_after`.
use Rattle.refusals.proofs.Numbers.{not_zero}
use Rattle.message_log.specs.LogOutcome.{log_answer}
use Rattle.message_log.proofs.Fillings.{answer_handed}
use Rattle.message_log.proofs.Plans.{after_refused, after_taken}
use Rattle.log_code.proofs.after.append_after.Goals as goal

pub returns-in_err-plan : goal.returns-in_err-plan
returns-in_err-plan c =
    record { result = rw (answer_handed _ _ c.from_residual.ensures.1) (after_refused _ _ _ _ _ _ c.in_err-plan.ensures.fault (not_zero _)) }

pub fill_message-requires : goal.fill_message-requires
fill_message-requires c = c.in_ok-plan.ensures.plan.room

pub returns : goal.returns
unfolding log_answer
returns c =
    record { result = after_taken _ _ _ _ _ c.in_ok-plan.ensures.fault _ _ _ _ c.in_ok-plan.ensures.plan _ _ c.fill_message.ensures.result }
