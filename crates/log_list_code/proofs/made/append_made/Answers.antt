-- Answers of `log_list_code::made::append_made`.
use Rattle.std.proofs.Common.{sym, ◌∙◌, arith}
use Rattle.prelude.proofs.Lists.{front_length}
use Rattle.message_log.proofs.Lists.{append_made}
use Rattle.log_list_code.proofs.made.append_made.Goals as goal

pub returns : goal.returns
returns c =
    record {
      result =
          append_made _ _ _ _ _ _ _ _ _ _ c.stored_count-stored.ensures _
          (sym (front_length _ _ (omega (arith, c.lesser-n.ensures.result))) ∙ c.lesser-n.ensures.result)
          (sym (front_length _ _ (omega (arith, c.lesser-n.ensures.result))) ∙ c.lesser-n.ensures.result) c.append-answer.ensures.result;
    }
