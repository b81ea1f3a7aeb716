-- Answers of `orderset_book_withdraw_c::orderset_proved_book_withdraw`.
use borrow.Author.Rules.{rules}
use Rattle.interface.proofs.SetLaws.{key_alone}
use Rattle.orderset_book_withdraw_c.proofs.orderset_proved_book_withdraw.Goals as goal

-- `orderset_book_withdraw_c::orderset_proved_book_withdraw` meets its contract. Assumes nothing.
pub returns : goal.returns
returns c =
    record { result = (simp key_alone at c.withdraw_call.ensures.result) }
