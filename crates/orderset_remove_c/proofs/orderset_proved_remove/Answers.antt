-- Answers of `orderset_remove_c::orderset_proved_remove`.
use borrow.Author.Rules.{rules}
use Rattle.interface.proofs.SetLaws.{key_alone}
use Rattle.orderset_remove_c.proofs.orderset_proved_remove.Goals as goal

-- `orderset_remove_c::orderset_proved_remove` meets its contract. Assumes nothing.
pub returns : goal.returns
returns c =
    record { result = (simp key_alone at c.remove_call.ensures.result) }
