-- What a basket leaves in the two lists that are lent for its stores. Document 02, A.7: "sixteen for each key; records
-- past them are kept".
use Rattle.std.specs.Prelude.{List, [], ◌∷◌, ◌++◌, ℕ, ◌-◌, length, take, drop, replicate}
use Rattle.prelude.specs.Answer.{Answer, gives, absent, refused}
use Rattle.stores.specs.Play.{word_numbers, values}
use Rattle.calls.specs.declared.BasketAnswer.{BasketAnswer}
use Rattle.calls.specs.declared.BasketOutcome.{BasketOutcome}
use Rattle.calls.specs.declared.BasketOutcome.TheVariants.{Stored, Refused}
use Rattle.index.specs.Index.{Index, index_of}
use Rattle.calls.specs.Result.{CallResult}

-- the answer, the slots as eight numbers, the two lent lists and the index at exit
pub record BasketBuffers : Type 0 where
  pub answer : Answer
  pub slots : List ℕ
  pub at : List ℕ
  pub words : List ℕ
  pub index : Index

-- the answer of a call that took these slots
unfoldable pub basket_says : (slots : List ℕ) → BasketOutcome → Answer
basket_says slots (Stored version) = gives (version ∷ slots)
basket_says slots (Refused number) = refused number

-- what a call with so many keys and this answer left
abbrev pub basket_end : (count : ℕ) → BasketAnswer → (at words heads next : List ℕ) → BasketBuffers
basket_end count r at words heads next =
    record {
      answer = basket_says (take count r.slots) r.outcome;
      slots = r.slots;
      at = at;
      words = words;
      index = index_of heads next r.state;
    }

-- the slots of an answer, and zeros after them up to eight
unfoldable pub eight_slots : Answer → List ℕ
eight_slots (gives []) = replicate 8 0
eight_slots (gives (version ∷ slots)) = slots ++ replicate (8 - length slots) 0
eight_slots absent = replicate 8 0
eight_slots (refused number) = replicate 8 0

-- "records past them are kept": what stands at the front of a lent list
unfoldable pub at_front : {X : Type 0} → (front lent : List X) → List X
at_front front lent = front ++ drop (length front) lent

-- what a call with this result leaves, lent these two lists
unfoldable pub buffers_after_lists : (at words : List ℕ) → CallResult → BasketBuffers
buffers_after_lists at words r =
    record {
      answer = r.answer;
      slots = eight_slots r.answer;
      at = at_front (word_numbers r.stores) at;
      words = at_front (values r.stores) words;
      index = r.index;
    }
