-- Answers of `log_cell_code::cells::greater_in`.
use Rattle.message_log.proofs.CellWords.{not_greater}
use Rattle.log_cell_code.proofs.cells.greater_in.Goals as goal

pub returns-then-stamp-best : goal.returns-then-stamp-best
returns-then-stamp-best c =
    not_greater _ _ _ _ _ c.read_word-stamp.ensures.result c.if-stamp-best.true
