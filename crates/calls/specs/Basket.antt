-- A basket: up to eight keys changed by one call. Document 02, A.7. The slots are given to the keys in order.
use Rattle.std.specs.Prelude.{Bool, false, List, [], ◌∷◌, ℕ, ◌+◌, ◌-◌, length, get_or}
use Rattle.words.specs.Word.{word}
use Rattle.prelude.specs.Refusal.{unless_refused}
use Rattle.prelude.specs.Answer.{gives, refused}
use Rattle.layout.specs.Size.{slots_in}
use Rattle.stores.specs.Basket.{BasketRecord, basket_stores}
use Rattle.table.specs.Complete.{size_field_for}
use Rattle.index.specs.Walk.{search}
use Rattle.index.specs.Allocation.{Taken, Allocation, taken, too_few, bad_link}
use Rattle.index.specs.Basket.{Item, taken_slots, basket_index}
use Rattle.index.specs.declared.State.{State}
use Rattle.index.specs.declared.Action.{Action}
use Rattle.index.specs.declared.Action.TheVariants.{Write, Remove}
use Rattle.index.specs.declared.Found.{Found}
use Rattle.index.specs.declared.Found.TheVariants.{At, Missing, BadChain}
use Rattle.allocation.specs.Allocation.{allocation_by_rule, allocation_chosen_by}
use Rattle.index.specs.Index.{Index, with_counts, head_of}
use Rattle.calls.specs.Result.{CallResult, unchanged}
use Rattle.calls.specs.BasketItems.{KeyChange}
use Rattle.calls.specs.BasketRefusals.{inserts_by, removes_by, sum_over, basket_fault_by, basket_fault}

-- "kind 1 put, 2 remove"
unfoldable pub kind_by : Action → ℕ
kind_by (Write mode) = 1
kind_by Remove = 2

-- the value in its record: a remove's has none
unfoldable pub value_by : Action → List ℕ → List ℕ
value_by (Write mode) value = value
value_by Remove value = []

-- the record of each key, and the slot taken for it
unfoldable pub records_for : List KeyChange → List Taken → List BasketRecord
records_for [] ts = []
records_for (c ∷ cs) [] = []
records_for (c ∷ cs) (t ∷ ts) =
    record {
      slot = t.slot;
      key = c.key;
      kind = kind_by c.action;
      value = value_by c.action c.value;
    } ∷ records_for cs ts

-- the slot of a key's old record, 0 for none
unfoldable pub old_in : Found → ℕ
old_in (At slot prev compared) = slot
old_in (Missing prev compared) = 0
old_in BadChain = 0

-- what is linked and appended for each key; b is the number of heads
unfoldable pub items_for : (found : ℕ → Found) → (b : ℕ) → List KeyChange → List Taken → List Item
items_for found b [] ts = []
items_for found b (c ∷ cs) [] = []
items_for found b (c ∷ cs) (t ∷ ts) =
    record {
      action = c.action;
      key_head = head_of c.key b;
      old = old_in (found c.key);
      slot = t.slot;
    } ∷ items_for found b cs ts

-- the index at exit but for its counts
unfoldable pub index_after : (l : ℕ) → (image : List ℕ) → Index → List KeyChange → List Taken → Index
index_after l image i changes ts =
    basket_index (slots_in image) i ts (items_for (search l image i.heads i.next) (length i.heads) changes ts)

-- "Its records share one version"; "It answers its version and slots"; s is the state at entry and i the index at exit
-- but for its counts. The first slot taken stands in the state
unfoldable pub basket_made : (l : ℕ) → (image : List ℕ) → State → List KeyChange → List Taken → Index → CallResult
basket_made l image s changes ts i =
    record {
      answer = gives (s.version ∷ taken_slots ts);
      out = [];
      stores = basket_stores l (word image) (size_field_for (length changes)) s.version (records_for changes ts);
      index =
          with_counts i (s.live + sum_over inserts_by changes - sum_over removes_by changes) (s.version + 1) (get_or (taken_slots ts) 0 0);
      compared = 0;
    }

-- by the slots that are taken
unfoldable pub basket_done : (l : ℕ) → (image : List ℕ) → Index → List KeyChange → Allocation → CallResult
basket_done l image i changes (taken ts) = basket_made l image i.state changes ts (index_after l image i changes ts)
basket_done l image i changes too_few = unchanged (refused 28) i 0
basket_done l image i changes bad_link = unchanged (refused 11) i 0

-- where this does not refuse it, by these slots
unfoldable pub basket_unless : (fault : ℕ) → (l : ℕ) → (image : List ℕ) → Index → List KeyChange → Allocation → CallResult
basket_unless fault l image i changes choice = unless_refused fault (basket_done l image i changes choice) (unchanged (refused fault) i 0)

-- "with an index not the image's own, only refusals are fixed": where `own` is false they are those of the taking rule
-- for any index, where it is true those of `own_allocation`; the slots are so chosen that with an index that is the
-- image's own they are the rule's too, `basket_by_rule`
unfoldable pub basket_result_by : (own : Bool) → (l : ℕ) → (image : List ℕ) → Index → List KeyChange → (at words : ℕ) → CallResult
basket_result_by own l image i changes at words =
    basket_unless (basket_fault_by own l image i changes at words) l image i changes
    (allocation_chosen_by own l image i.next (slots_in image) i.state.first i.state.newest (length changes))

abbrev pub basket_result : (l : ℕ) → (image : List ℕ) → Index → List KeyChange → (at words : ℕ) → CallResult
basket_result l image i changes at words = basket_result_by false l image i changes at words

unfoldable pub basket_by_rule : (l : ℕ) → (image : List ℕ) → Index → List KeyChange → (at words : ℕ) → CallResult
basket_by_rule l image i changes at words =
    basket_unless (basket_fault l image i changes at words) l image i changes
    (allocation_by_rule l image i.next (slots_in image) i.state.first (length changes))
