-- A basket whose stores are lent as one list of records. Document 02, A.7.
use Rattle.std.specs.Prelude.{List, ℕ, take}
use Rattle.prelude.specs.Answer.{Answer}
use Rattle.stores.specs.Store.{Store}
use Rattle.calls.specs.declared.BasketAnswer.{BasketAnswer}
use Rattle.index.specs.Index.{Index, index_of}
use Rattle.calls.specs.Result.{CallResult}
use Rattle.calls.specs.BasketBuffers.{basket_says, eight_slots, at_front}

-- the answer, the slots as eight numbers, a list of stores and the index at exit
pub record BasketListBuffers : Type 0 where
  pub answer : Answer
  pub slots : List ℕ
  pub list : List Store
  pub index : Index

-- what a call with so many keys and this answer left
abbrev pub basket_list_end : (count : ℕ) → BasketAnswer → (list : List Store) → (heads next : List ℕ) → BasketListBuffers
basket_list_end count r list heads next =
    record {
      answer = basket_says (take count r.slots) r.outcome;
      slots = r.slots;
      list = list;
      index = index_of heads next r.state;
    }

-- what a call with this result leaves, and a list of stores
unfoldable pub left_with : CallResult → (list : List Store) → BasketListBuffers
left_with r list = record { answer = r.answer; slots = eight_slots r.answer; list = list; index = r.index }

-- "The stores are lent as a list of records, each a word number and a value, sixteen for each key; records past them
-- are kept": lent this list
unfoldable pub buffers_after_list : (list : List Store) → CallResult → BasketListBuffers
buffers_after_list list r = left_with r (at_front r.stores list)
