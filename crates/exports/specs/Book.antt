-- What the exported book steps return and leave in the lent numbers, by the results that the steps promise. Document
-- 02, A.1.
use Rattle.std.specs.Prelude.{List, ◌∷◌, ℕ}
use Rattle.interface.specs.Set.{Store, stores_after}
use Rattle.book.specs.Steps.{BookAnswer, taken, already, declined, BookResult}
use Rattle.book.specs.Plain.{refusal_number}
use Rattle.exports.specs.Call.{ChangeCall}

-- the lent answer: 1, the slot taken and the version; 2, the slot and the version of an order that was acknowledged
-- before; a refusal changes nothing lent
unfoldable pub book_answered : BookAnswer → (lent : List ℕ) → List ℕ
book_answered (taken values) lent = 1 ∷ values
book_answered (already values) lent = 2 ∷ values
book_answered (declined number) lent = lent

unfoldable pub book_call : BookResult → (answer : List ℕ) → (stores : List Store) → ChangeCall
book_call r answer stores =
    record {
      returns = refusal_number r.answer;
      answer = book_answered r.answer answer;
      stores = stores_after r.stores stores;
      index = r.index;
    }
