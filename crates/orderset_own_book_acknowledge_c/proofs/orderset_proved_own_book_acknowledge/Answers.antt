-- Answers of `orderset_own_book_acknowledge_c::orderset_proved_own_book_acknowledge`.
use borrow.Author.Rules.{rules}
use Rattle.interface.proofs.SetLaws.{key_alone}
use Rattle.orderset_own_book_acknowledge_c.proofs.orderset_proved_own_book_acknowledge.Goals as goal

-- `orderset_own_book_acknowledge_c::orderset_proved_own_book_acknowledge` meets its contract. Assumes nothing.
pub returns : goal.returns
returns c =
    record { result = (simp key_alone at c.acknowledge_call.ensures.result) }
