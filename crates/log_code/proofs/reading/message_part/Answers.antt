-- Answers of `log_code::reading::message_part`.
use Rattle.message_log.proofs.Readings.{part_is}
use Rattle.log_code.proofs.reading.message_part.Goals as goal

pub returns : goal.returns
returns c =
    part_is _ _ _ c.read_word-size.ensures.result
