-- Answers of `log_stores_code::filling::fill_message`.
use Rattle.message_log.proofs.Plans.{message_filled}
use Rattle.log_stores_code.proofs.filling.fill_message.Goals as goal

pub returns : goal.returns
returns c =
    record {
      result = (message_filled _ _ _ _ _ _ _ _ _ _ _ _
          c.read_word-stamp.ensures.result c.requires.pairs_are c.fill_marked.ensures c.fill_payload.ensures);
    }
