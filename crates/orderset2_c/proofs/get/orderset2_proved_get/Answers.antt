-- Answers of `orderset2_c::get::orderset2_proved_get`.
use borrow.Author.Rules.{rules}
use Rattle.exports.proofs.Calls.{get_called}
use Rattle.orderset2_c.proofs.get.orderset2_proved_get.Goals as goal

-- `orderset2_c::get::orderset2_proved_get` meets its contract. Assumes nothing.
pub returns : goal.returns
returns c =
    record { result = (get_called _ _ _ _ c.get2-got.result _ c.get2-got.ensures.result c.write_answer_got.ensures.result) }
