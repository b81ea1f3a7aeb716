-- Answers of `orderset_own_replace_c::orderset_proved_own_replace`.
use borrow.Author.Rules.{rules}
use Rattle.interface.proofs.SetLaws.{key_alone}
use Rattle.orderset_own_replace_c.proofs.orderset_proved_own_replace.Goals as goal

-- `orderset_own_replace_c::orderset_proved_own_replace` meets its contract. Assumes nothing.
pub returns : goal.returns
returns c =
    record { result = (simp key_alone at c.write_call.ensures.result) }
