-- Answers of `orderset_insert_c::orderset_proved_insert`.
use borrow.Author.Rules.{rules}
use Rattle.interface.proofs.SetLaws.{key_alone}
use Rattle.orderset_insert_c.proofs.orderset_proved_insert.Goals as goal

-- `orderset_insert_c::orderset_proved_insert` meets its contract. Assumes nothing.
pub returns : goal.returns
returns c =
    record { result = (simp key_alone at c.write_call.ensures.result) }
