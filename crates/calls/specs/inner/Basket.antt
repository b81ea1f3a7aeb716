-- A basket as the functions have it: its keys, the slots of their old records and the slots taken stand in arrays. What
-- is asked of the bytes of its values is their count alone, so what is read before the writes holds for any `values`.
use Rattle.std.specs.Prelude.{◌≡◌, Bool, not, cond, List, [], ◌∷◌, ℕ, zero, suc, ◌+◌, ◌*◌, ◌^◌, ◌≤◌, ◌<◌, eqb, ltb, length, get_or, take}
use Rattle.prelude.specs.Refusal.{or_else}
use Rattle.layout.specs.Record.{Layout, limit}
use Rattle.layout.specs.inner.Sized.{Sized}
use Rattle.stores.specs.Store.{zipped}
use Rattle.stores.specs.Basket.{BasketRecord}
use Rattle.index.specs.Index.{index_of, head_of}
use Rattle.index.specs.Walk.{search, chain_fault}
use Rattle.index.specs.Change.{is_found}
use Rattle.index.specs.Allocation.{Allocation, taken}
use Rattle.index.specs.Basket.{Item}
use Rattle.index.specs.inner.Basket.{takens_from}
use Rattle.index.specs.declared.State.{State}
use Rattle.index.specs.declared.Action.{Action}
use Rattle.index.specs.declared.Action.TheVariants.{Write, Remove}
use Rattle.index.specs.declared.Found.{Found}
use Rattle.allocation.specs.Allocation.{allocation_by, allocation_chosen_by}
use Rattle.allocation.specs.declared.Choice.{Choice}
use Rattle.calls.specs.Change.{store_fault}
use Rattle.calls.specs.Result.{CallResult}
use Rattle.calls.specs.BasketItems.{item_key, item_at, item_value, changes_of}
use Rattle.calls.specs.BasketRefusals.{first_fault, action_fault, keys_fault, basket_fault_by, sum_over, inserts_by, removes_by}
use Rattle.calls.specs.BasketList.{BasketListBuffers, basket_list_end, left_with}
use Rattle.calls.specs.Basket.{kind_by, old_in}
use Rattle.calls.specs.declared.BasketItem.{BasketItem}
use Rattle.calls.specs.declared.Olds.{Olds}
use Rattle.calls.specs.declared.Totals.{Totals}
use Rattle.calls.specs.declared.Plan.{Plan}
use Rattle.calls.specs.declared.BasketMade.{BasketMade}
use Rattle.calls.specs.declared.BasketOutcome.{BasketOutcome}
use Rattle.calls.specs.declared.BasketOutcome.TheVariants.{Stored, Refused}

-- the key of item i
abbrev pub item_key_at : (l : ℕ) → List BasketItem → ℕ → ℕ
item_key_at l items i = item_key l (item_at items i)

-- how many bytes the value in its record has: a remove's has none
unfoldable pub size_by : Action → (size : ℕ) → ℕ
size_by (Write mode) size = size
size_by Remove size = 0

abbrev pub size_at : List BasketItem → ℕ → ℕ
size_at items i = size_by (item_at items i).action (item_at items i).length

-- what is linked and appended for n keys from number i on
unfoldable pub items_from : (l b : ℕ) → List BasketItem → (olds slots : List ℕ) → (i n : ℕ) → List Item
items_from l b items olds slots i zero = []
items_from l b items olds slots i (suc n) =
    record {
      action = (item_at items i).action;
      key_head = head_of (item_key_at l items i) b;
      old = get_or olds i 0;
      slot = get_or slots i 0;
    } ∷ items_from l b items olds slots (suc i) n

-- and their records
unfoldable pub records_from : (l : ℕ) → List BasketItem → (values slots : List ℕ) → (i n : ℕ) → List BasketRecord
records_from l items values slots i zero = []
records_from l items values slots i (suc n) =
    record {
      slot = get_or slots i 0;
      key = item_key_at l items i;
      kind = kind_by (item_at items i).action;
      value = item_value values i (size_at items i);
    } ∷ records_from l items values slots (suc i) n

-- ---- what is read

-- o is the slots of the old records, or the refusal by a chain; `found` gives what following a key's chain finds
pub record OldsOf (found : ℕ → Found) (l count : ℕ) (items : List BasketItem) (o : Olds) : Type 0 where
  pub fault_is : (values : List ℕ) → o.fault ≡ first_fault (λ c. chain_fault (found c.key)) (changes_of l count items values)
  pub slot_is : o.fault ≡ 0 → (j : ℕ) → j < count → get_or o.slots j 0 ≡ old_in (found (item_key_at l items j))

-- r is 20 or 21 for the first key that has one: the old record of a held key stands in a slot, which is not 0
abbrev pub ActionsFault : List BasketItem → (count : ℕ) → (olds : List ℕ) → ℕ → Type 0
ActionsFault items count olds r =
    (l : ℕ) (found : ℕ → Found) → ((j : ℕ) → j < count → is_found (found (item_key_at l items j)) ≡ not (eqb (get_or olds j 0) 0))
    → (values : List ℕ) → r ≡ first_fault (λ c. action_fault c.action (is_found (found c.key))) (changes_of l count items values)

-- t is the counts of the keys inserted and removed
pub record TotalsOf (l count : ℕ) (items : List BasketItem) (t : Totals) : Type 0 where
  pub inserts_are : (values : List ℕ) → t.inserts ≡ sum_over inserts_by (changes_of l count items values)
  pub removes_are : (values : List ℕ) → t.removes ≡ sum_over removes_by (changes_of l count items values)
  pub inserts_few : t.inserts ≤ count
  pub removes_few : t.removes ≤ count

-- c is the slots `choice` of a call that wants so many, or its refusal by the slots `taking` after those for its keys
pub record StoreChoice (taking choice : Allocation) (n : ℕ) (s : State) (wanted inserts removes : ℕ) (c : Choice) : Type 0 where
  pub fault_is : c.fault ≡ store_fault taking n s inserts removes
  pub slots_are : c.fault ≡ 0 → choice ≡ taken (takens_from c.slots c.prevs 0 wanted)
  pub zeros : c.fault ≡ 0 → (j : ℕ) → wanted ≤ j → get_or c.slots j 0 ≡ 0

-- p is what a basket reads that is not refused by what is given and lent
pub record KeysPlanned (own : Bool) (l : ℕ) (image heads next : List ℕ) (n : ℕ) (s : State) (count : ℕ) (items : List BasketItem) (p : Plan) : Type 0 where
  pub fault_is : (values : List ℕ) → p.fault
      ≡ or_else (keys_fault (search l image heads next) (changes_of l count items values))
      (store_fault (allocation_by own l image next n s.first s.newest count) n s (sum_over inserts_by (changes_of l count items values))
      (sum_over removes_by (changes_of l count items values)))
  pub olds_are : p.fault ≡ 0 → (j : ℕ) → j < count → get_or p.olds j 0 ≡ old_in (search l image heads next (item_key_at l items j))
  pub choice_is : p.fault ≡ 0 → allocation_chosen_by own l image next n s.first s.newest count ≡ taken (takens_from p.slots p.prevs 0 count)
  pub zeros : p.fault ≡ 0 → (j : ℕ) → count ≤ j → get_or p.slots j 0 ≡ 0

-- a basket that is not refused can be written by p; at and words are the lengths of the lent lists
pub record BasketReady (own : Bool) (l : ℕ) (image heads next : List ℕ) (n : ℕ) (s : State) (count : ℕ) (items : List BasketItem) (at words : ℕ) (p : Plan) :
    Type 0 where
  pub sized : Sized image heads next n
  pub some : 0 < count
  pub few : count ≤ 8
  pub at_room : 16 * count ≤ at
  pub words_room : 16 * count ≤ words
  pub size_fits : (j : ℕ) → j < count → size_at items j ≤ limit l
  pub olds_are : (j : ℕ) → j < count → get_or p.olds j 0 ≡ old_in (search l image heads next (item_key_at l items j))
  pub choice_is : allocation_chosen_by own l image next n s.first s.newest count ≡ taken (takens_from p.slots p.prevs 0 count)
  pub zeros : (j : ℕ) → count ≤ j → get_or p.slots j 0 ≡ 0
  pub last_in : s.last ≤ n
  pub version_fits : s.version < 2 ^ 63
  pub live_room : (values : List ℕ) → s.live + sum_over inserts_by (changes_of l count items values) < n + sum_over removes_by (changes_of l count items values)
  pub live_left : (values : List ℕ) → sum_over removes_by (changes_of l count items values) ≤ s.live

-- p is what a basket reads
pub record Planned (own : Bool) (l : ℕ) (image heads next : List ℕ) (n : ℕ) (s : State) (count : ℕ) (items : List BasketItem) (at words : ℕ) (p : Plan) : Type 0
  where
    pub fault_is : (values : List ℕ) → p.fault ≡ basket_fault_by own l image (index_of heads next s) (changes_of l count items values) at words
    pub ready : p.fault ≡ 0 → BasketReady own l image heads next n s count items at words p

-- ---- what the writes ask

-- the stores of the first `count` items can be put into lists of these lengths
pub record StoresInside (l : ℕ) (image : List ℕ) (version count : ℕ) (items : List BasketItem) (slots : List ℕ) (at words : ℕ) : Type 0 where
  pub layout : Layout l
  pub some : 0 < count
  pub few : count ≤ 8
  pub version_fits : version < 2 ^ 63
  pub size_fits : (j : ℕ) → j < count → size_at items j ≤ limit l
  pub slot_fits : (j : ℕ) → j < count → get_or slots j 0 < 65536
  pub slot_in : (j : ℕ) → j < count → 128 * (get_or slots j 0 + 1) ≤ length image
  pub at_room : 16 * count ≤ at
  pub words_room : 16 * count ≤ words

-- the first `count` keys can be linked and appended in an index of n slots
pub record ItemsInside (n heads next last count : ℕ) (olds slots : List ℕ) : Type 0 where
  pub some_head : 1 ≤ heads
  pub size : next ≡ n + 1
  pub last_in : last ≤ n
  pub few : count ≤ 8
  pub old-in : (j : ℕ) → j < count → get_or olds j 0 ≤ n
  pub slot_in : (j : ℕ) → j < count → get_or slots j 0 ≤ n

-- ---- a basket whose stores go to a lent list of records

-- how many stores an outcome of so many keys hands out
unfoldable pub stores_by : BasketOutcome → (count : ℕ) → ℕ
stores_by (Stored version) count = 16 * count
stores_by (Refused number) count = 0

-- no basket has more than eight keys
unfoldable pub basket_store_count : BasketOutcome → (count : ℕ) → ℕ
basket_store_count outcome count = cond (ltb 8 count) 0 (stores_by outcome count)

-- what a call that made its stores in arrays left
abbrev pub made_end : (count : ℕ) → BasketMade → (heads next : List ℕ) → BasketListBuffers
made_end count m heads next =
    basket_list_end count m.answer (zipped (take m.stored m.at) (take m.stored m.words)) heads next

-- r is the result; all its stores are made, and a list with this room holds them
pub record MadeOf (r : CallResult) (room count : ℕ) (m : BasketMade) (heads next : List ℕ) : Type 0 where
  pub left : made_end count m heads next ≡ left_with r r.stores
  pub in_room : m.stored ≤ room
  pub in_arrays : m.stored ≤ 128
