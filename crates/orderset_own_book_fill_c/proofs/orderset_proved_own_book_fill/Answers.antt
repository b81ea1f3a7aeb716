-- Answers of `orderset_own_book_fill_c::orderset_proved_own_book_fill`.
use borrow.Author.Rules.{rules}
use Rattle.interface.proofs.SetLaws.{key_alone}
use Rattle.orderset_own_book_fill_c.proofs.orderset_proved_own_book_fill.Goals as goal

-- `orderset_own_book_fill_c::orderset_proved_own_book_fill` meets its contract. Assumes nothing.
pub returns : goal.returns
returns c =
    record { result = (simp key_alone at c.fill_call.ensures.result) }
