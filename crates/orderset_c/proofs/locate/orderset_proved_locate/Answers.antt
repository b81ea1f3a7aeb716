-- Answers of `orderset_c::locate::orderset_proved_locate`.
use borrow.Author.Rules.{rules}
use Rattle.exports.proofs.Calls.{locate_called}
use Rattle.orderset_c.proofs.locate.orderset_proved_locate.Goals as goal

-- `orderset_c::locate::orderset_proved_locate` meets its contract. Assumes nothing.
pub returns : goal.returns
returns c =
    record { result = (locate_called _ _ _ _ _ c.locate-located.ensures.result c.write_answer_located.ensures.result) }
