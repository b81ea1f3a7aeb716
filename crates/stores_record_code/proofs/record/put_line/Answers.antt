-- Answers of `stores_record_code::record::put_line`.
use mathlib.Core.List.{[], ◌∷◌}
use native.Mathlib.Omega.{arith}
use lib.ListN.{length-set}
use borrow.Author.Rules.{rules}
use Rattle.stores.proofs.Pasted.{stored_pasted}
use Rattle.stores_record_code.proofs.record.put_line.Goals as goal

pub bounds-words-from-2 : goal.bounds-words-from-2
bounds-words-from-2 c =
    simp length-set (omega arith)

pub bounds-words-from-3 : goal.bounds-words-from-3
bounds-words-from-3 c =
    simp length-set (omega arith)

pub bounds-words-from-4 : goal.bounds-words-from-4
bounds-words-from-4 c =
    simp length-set (omega arith)

pub bounds-words-from-5 : goal.bounds-words-from-5
bounds-words-from-5 c =
    simp length-set (omega arith)

pub bounds-words-from-6 : goal.bounds-words-from-6
bounds-words-from-6 c =
    simp length-set (omega arith)

pub bounds-words-from-7 : goal.bounds-words-from-7
bounds-words-from-7 c =
    simp length-set (omega arith)

pub bounds-words-from-8 : goal.bounds-words-from-8
bounds-words-from-8 c =
    simp length-set (omega arith)

pub returns : goal.returns
returns c =
    stored_pasted _ _ _ (_ ∷ _ ∷ _ ∷ _ ∷ _ ∷ _ ∷ _ ∷ []) c.requires
