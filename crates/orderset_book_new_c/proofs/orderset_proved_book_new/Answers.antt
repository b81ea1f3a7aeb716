-- Answers of `orderset_book_new_c::orderset_proved_book_new`.
use borrow.Author.Rules.{rules}
use Rattle.interface.proofs.SetLaws.{key_alone}
use Rattle.orderset_book_new_c.proofs.orderset_proved_book_new.Goals as goal

-- `orderset_book_new_c::orderset_proved_book_new` meets its contract. Assumes nothing.
pub returns : goal.returns
returns c =
    record { result = (simp key_alone at c.new_call.ensures.result) }
