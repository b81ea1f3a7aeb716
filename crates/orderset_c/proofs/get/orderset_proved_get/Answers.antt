-- Answers of `orderset_c::get::orderset_proved_get`.
use borrow.Author.Rules.{rules}
use Rattle.exports.proofs.Calls.{get_called}
use Rattle.orderset_c.proofs.get.orderset_proved_get.Goals as goal

-- `orderset_c::get::orderset_proved_get` meets its contract. Assumes nothing.
pub returns : goal.returns
returns c =
    record { result = (get_called _ _ _ _ c.get-got.result _ c.get-got.ensures.result c.write_answer_got.ensures.result) }
