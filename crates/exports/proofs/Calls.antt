-- What an exported call that writes leaves, by what the public call left and the numbers that were handed out. Assumes nothing.
use mathlib.Core.Path.{◌≡◌, ap, ap₂, ◌∙◌}
use mathlib.Core.List.{List}
use Prim.Native.Nat.{ℕ}
use Rattle.prelude.specs.Answer.{Answer}
use Rattle.interface.specs.Set.{GetAnswer, LocateAnswer, get_end, locate_end, get_says, locate_says, ReadOnlyResult, CallResult}
use Rattle.interface.specs.Set.{Store, State, zipped, Change, change_says, change_end, buffers_after}
use Rattle.book.specs.Steps.{BookResult, book_says, book_end, book_buffers_after}
use Rattle.book.specs.Plain.{refusal_number}
use Rattle.book.specs.declared.BookChange.{BookChange}
use Rattle.exports.specs.Call.{answered_with, returned_with, ChangeCall, change_left, change_call, GetCall, get_left, get_call, LocateCall, locate_left}
use Rattle.exports.specs.Call.{locate_call}
use Rattle.exports.specs.Book.{book_answered, book_call}

module _ (code : ℕ) (answer lent-answer : List ℕ) (s : State) (at value heads next : List ℕ) (lent : List Store) where
  pub change_called : (r : Change) (c : CallResult) → change_end r at value heads next ≡ buffers_after lent c
      → (code ≡ returned_with (change_says r.outcome) r.compared) × (answer ≡ answered_with 3 (change_says r.outcome) r.compared lent-answer)
      × (s ≡ r.state)
      → change_left code answer s (zipped at value) heads next ≡ change_call c lent-answer lent
  unfolding change_call buffers_after
  change_called r c e h =
      ap (λ (k : ℕ). change_left k answer s (zipped at value) heads next) h.0
      ∙ ap₂ (λ (a : List ℕ) (t : State). change_left (returned_with (change_says r.outcome) r.compared) a t (zipped at value) heads next) h.1 h.2
      ∙ ap told e
    where
      told : CallResult → ChangeCall
      told x =
          change_left (returned_with x.answer x.compared) (answered_with 3 x.answer x.compared lent-answer) x.index.state x.stores
          x.index.heads x.index.next

  pub step_called : (r : BookChange) (c : BookResult) → book_end r at value heads next ≡ book_buffers_after lent c
      → (code ≡ refusal_number (book_says r.outcome)) × (answer ≡ book_answered (book_says r.outcome) lent-answer) × (s ≡ r.state)
      → change_left code answer s (zipped at value) heads next ≡ book_call c lent-answer lent
  unfolding book_call book_buffers_after
  step_called r c e h =
      ap (λ (k : ℕ). change_left k answer s (zipped at value) heads next) h.0
      ∙ ap₂ (λ (a : List ℕ) (t : State). change_left (refusal_number (book_says r.outcome)) a t (zipped at value) heads next) h.1 h.2
      ∙ ap told e
    where
      told : BookResult → ChangeCall
      told x = change_left (refusal_number x.answer) (book_answered x.answer lent-answer) x.index.state x.stores x.index.heads x.index.next

-- get and locate, by what they gave back
pub get_called : (code : ℕ) (answer lent-answer out : List ℕ) (r : GetAnswer) (c : ReadOnlyResult) → get_end r out ≡ c
    → (code ≡ returned_with (get_says r.got) r.compared) × (answer ≡ answered_with 2 (get_says r.got) r.compared lent-answer)
    → get_left code answer out ≡ get_call c lent-answer
unfolding get_call
get_called code answer lent-answer out r c e h = ap₂ (λ (k : ℕ) (a : List ℕ). get_left k a out) h.0 h.1 ∙ ap told e
  where
    told : ReadOnlyResult → GetCall
    told x = get_left (returned_with x.answer x.compared) (answered_with 2 x.answer x.compared lent-answer) x.out

pub locate_called : (code : ℕ) (answer lent-answer : List ℕ) (r : LocateAnswer) (c : ReadOnlyResult) → locate_end r ≡ c
    → (code ≡ returned_with (locate_says r.located) r.compared) × (answer ≡ answered_with 3 (locate_says r.located) r.compared lent-answer)
    → locate_left code answer ≡ locate_call c lent-answer
unfolding locate_call
locate_called code answer lent-answer r c e h = ap₂ locate_left h.0 h.1 ∙ ap told e
  where
    told : ReadOnlyResult → LocateCall
    told x = locate_left (returned_with x.answer x.compared) (answered_with 3 x.answer x.compared lent-answer)
