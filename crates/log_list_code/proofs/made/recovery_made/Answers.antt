-- Answers of `log_list_code::made::recovery_made`.
use Rattle.std.proofs.Common.{sym, ◌∙◌, arith}
use Rattle.prelude.proofs.Lists.{front_length}
use Rattle.message_log.proofs.Lists.{recovery_made}
use Rattle.log_list_code.proofs.made.recovery_made.Goals as goal

pub returns : goal.returns
returns c =
    record {
      result =
          recovery_made _ _ _ _ _ _ _ _ _ _ c.stored_count-stored.ensures
          (sym (front_length _ _ (omega (arith, c.lesser-n.ensures.result))) ∙ c.lesser-n.ensures.result)
          (sym (front_length _ _ (omega (arith, c.lesser-n.ensures.result))) ∙ c.lesser-n.ensures.result) c.recover_log-answer.ensures.result;
    }
