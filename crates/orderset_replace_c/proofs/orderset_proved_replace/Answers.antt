-- Answers of `orderset_replace_c::orderset_proved_replace`.
use borrow.Author.Rules.{rules}
use Rattle.interface.proofs.SetLaws.{key_alone}
use Rattle.orderset_replace_c.proofs.orderset_proved_replace.Goals as goal

-- `orderset_replace_c::orderset_proved_replace` meets its contract. Assumes nothing.
pub returns : goal.returns
returns c =
    record { result = (simp key_alone at c.write_call.ensures.result) }
