-- An insert, a replace and a remove of a held key are the basket of their one key, with any index of which the slot is the first of reuse. Assumes nothing.
use mathlib.Core.Path.{◌≡◌, refl, sym, ap, ap₂, ◌∙◌}
use mathlib.Core.Bool.{Bool}
use mathlib.Core.List.{List, [], ◌∷◌, ◌++◌, append-nil}
use Prim.Native.Nat.{ℕ, ◌+◌, ◌-◌}
use native.Mathlib.Numerals.{unary_clauses}
use native.Mathlib.Omega.{arith}
use lib.ListN.{length}
use Rattle.prelude.specs.Refusal.{refuse_if, or_else}
use Rattle.prelude.specs.Answer.{Answer, gives, absent, refused}
use Rattle.prelude.proofs.Refusals.{or_else_none, or_else_row}
use Rattle.layout.specs.Size.{slots_in}
use Rattle.stores.specs.Basket.{basket_stores}
use Rattle.table.specs.Complete.{size_field_for}
use Rattle.index.specs.Index.{Index, set_start, set_last, link, head_of}
use Rattle.index.specs.Walk.{search, chain_fault}
use Rattle.index.specs.Change.{insert_at, replace_at, remove_at, is_found, inserts_of}
use Rattle.index.specs.Allocation.{Taken}
use Rattle.index.specs.Basket.{take_slot, all_taken_of, taken_slots, before_in, link_by, link_item, link_all, basket_index}
use Rattle.index.specs.declared.Action.{Action}
use Rattle.index.specs.declared.Action.TheVariants.{Write, Remove}
use Rattle.index.specs.declared.Mode.{Mode}
use Rattle.index.specs.declared.Mode.TheVariants.{Insert, Replace}
use Rattle.index.specs.declared.Found.TheVariants.{At, Missing}
use Rattle.calls.specs.Change.{changed, write_fault_by, write_lent_fault, write_later_fault, write_done, remove_fault_by, remove_later_fault, remove_done}
use Rattle.calls.specs.Result.{CallResult}
use Rattle.calls.specs.BasketItems.{KeyChange}
use Rattle.calls.specs.BasketRefusals.{key_count_fault, among, any_twice, lists_fault, given_fault, first_fault, value_fault, action_fault, basket_lent_fault}
use Rattle.calls.specs.BasketRefusals.{keys_fault, inserts_by, removes_by, sum_over, basket_fault_by}
use Rattle.calls.specs.Basket.{kind_by, value_by, records_for, old_in, items_for, index_after, basket_made}

-- what a single call asks, as a basket does
abbrev pub one_change : Action → (key : ℕ) → (value : List ℕ) → List KeyChange
one_change action key value = record { action = action; key = key; value = value } ∷ []

-- a single call answers its slot and then its version, a basket its version and then its slots
unfoldable pub slot_first : Answer → Answer
slot_first (gives []) = gives []
slot_first (gives (version ∷ slots)) = gives (slots ++ version ∷ [])
slot_first absent = absent
slot_first (refused number) = refused number

-- what a single call leaves, by the basket of its key; a basket reports no count
unfoldable pub as_single : (compared : ℕ) → CallResult → CallResult
as_single compared r =
    record { answer = slot_first r.answer; out = []; stores = r.stores; index = r.index; compared = compared }

-- ---- the refusals

module _ (own : Bool) (l : ℕ) (image : List ℕ) (i : Index) where
  pub write_fault_one : (mode : Mode) (key : ℕ) (value : List ℕ)
      → basket_fault_by own l image i (one_change (Write mode) key value) 16 16 ≡ write_fault_by own l image i mode key (length value)
  unfolding basket_fault_by given_fault key_count_fault any_twice among lists_fault basket_lent_fault first_fault value_fault keys_fault action_fault sum_over
      inserts_by
      removes_by inserts_of write_fault_by write_lent_fault write_later_fault or_else refuse_if
  write_fault_one Insert key value = simp (or_else_none, or_else_row) refl
  write_fault_one Replace key value = simp (or_else_none, or_else_row) refl

  pub remove_fault_one : (key old prev compared : ℕ) → search l image i.heads i.next key ≡ At old prev compared
      → basket_fault_by own l image i (one_change Remove key []) 16 16 ≡ remove_fault_by own l image i key
  unfolding basket_fault_by given_fault key_count_fault any_twice among lists_fault basket_lent_fault first_fault value_fault keys_fault action_fault sum_over
      inserts_by
      removes_by remove_fault_by remove_later_fault is_found chain_fault or_else refuse_if
  remove_fault_one key old prev compared e = simp (or_else_none, or_else_row, e) refl

-- ---- what is left, by the slot s, the first of reuse

module _ (l : ℕ) (image : List ℕ) (i : Index) (key s count : ℕ) where
  abbrev t : Taken
  t = record { slot = s; prev = 0 }

  abbrev h : ℕ
  h = head_of key (length i.heads)

  -- what the basket of this one key leaves
  abbrev pub made : Action → (value : List ℕ) → CallResult
  made action value =
      as_single count
      (basket_made l image i.state (one_change action key value) (t ∷ []) (index_after l image i (one_change action key value) (t ∷ [])))

  is_made : (action : Action) (value : List ℕ) (old : ℕ) → old_in (search l image i.heads i.next key) ≡ old
      → changed l image i.state s key (kind_by action) (value_by action value) (link_by (slots_in image) (take_slot i t) action h old s)
      (i.state.live + inserts_by action - removes_by action) count
      ≡ made action value
  unfolding changed as_single slot_first basket_made index_after basket_stores records_for taken_slots size_field_for basket_index all_taken_of link_all
      link_item items_for
      sum_over
  is_made action value old e = simp (append-nil, unary_clauses, e) refl

  -- the slot before the key's place in its chain, by its number
  abbrev pub before : (target : ℕ) → ℕ
  before target = before_in i (slots_in image) h target

  pub insert_one : (value : List ℕ) (prev compared : ℕ) → before 0 ≡ prev
      → write_done l image i key value s (take_slot i t) count (Missing prev compared) ≡ made (Write Insert) value
  unfolding write_done kind_by value_by link_by inserts_by inserts_of removes_by take_slot link set_start set_last before_in
  insert_one value prev compared p =
      ap₂ (λ (x live : ℕ). changed l image i.state s key 1 value (insert_at (take_slot i t) h x s) live count) (sym p) (omega arith)
      ∙ is_made (Write Insert) value _ refl

  pub replace_one : (value : List ℕ) (old prev compared : ℕ) → search l image i.heads i.next key ≡ At old prev compared → before old ≡ prev
      → write_done l image i key value s (take_slot i t) count (At old prev compared) ≡ made (Write Replace) value
  unfolding write_done kind_by value_by link_by inserts_by inserts_of removes_by take_slot link set_start set_last before_in old_in
  replace_one value old prev compared e p =
      ap₂ (λ (x live : ℕ). changed l image i.state s key 1 value (replace_at (take_slot i t) h x old s) live count) (sym p) (omega arith)
      ∙ is_made (Write Replace) value old (ap old_in e)

  pub remove_one : (old prev compared : ℕ) → search l image i.heads i.next key ≡ At old prev compared → before old ≡ prev
      → remove_done l image i key s (take_slot i t) count (At old prev compared) ≡ made Remove []
  unfolding remove_done kind_by value_by link_by inserts_by removes_by take_slot link set_start set_last before_in old_in
  remove_one old prev compared e p =
      ap₂ (λ (x live : ℕ). changed l image i.state s key 2 [] (remove_at (take_slot i t) h x old s) live count) (sym p) (omega arith)
      ∙ is_made Remove [] old (ap old_in e)
