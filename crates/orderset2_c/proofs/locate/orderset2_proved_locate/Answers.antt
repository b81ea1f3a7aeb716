-- Answers of `orderset2_c::locate::orderset2_proved_locate`.
use borrow.Author.Rules.{rules}
use Rattle.exports.proofs.Calls.{locate_called}
use Rattle.orderset2_c.proofs.locate.orderset2_proved_locate.Goals as goal

-- `orderset2_c::locate::orderset2_proved_locate` meets its contract. Assumes nothing.
pub returns : goal.returns
returns c =
    record { result = (locate_called _ _ _ _ _ c.locate2-located.ensures.result c.write_answer_located.ensures.result) }
