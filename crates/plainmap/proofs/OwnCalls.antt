-- With an index that is the image's own the calls for its owner are the calls for any index. Assumes nothing.
use mathlib.Core.Path.{◌≡◌, refl, sym, ap, ap₂, ◌∙◌}
use mathlib.Core.Bool.{Bool, true, false}
use mathlib.Core.List.{List}
use Prim.Native.Nat.{ℕ}
use lib.ListN.{length}
use Rattle.prelude.specs.Refusal.{or_else}
use Rattle.layout.specs.Size.{slots_in}
use Rattle.layout.specs.Record.{Layout}
use Rattle.layout.specs.Header.{lent_fault}
use Rattle.layout.specs.Content.{Table, contents_of, size_fields_of}
use Rattle.table.specs.Complete.{table_of, NoneVoid}
use Rattle.table.specs.Takeable.{IsNewest}
use Rattle.table.proofs.Alike.{alike_newest}
use Rattle.index.specs.Index.{Chain}
use Rattle.index.specs.Walk.{search}
use Rattle.index.specs.Change.{take_first}
use Rattle.index.specs.Allocation.{Allocation}
use Rattle.index.specs.declared.Mode.{Mode}
use Rattle.allocation.specs.Allocation.{allocation_by_rule, allocation_chosen, own_allocation, allocation_by, allocation_chosen_by}
use Rattle.allocation.proofs.Own.{own_taken}
use Rattle.allocation.proofs.Choices.{choice_own}
use Rattle.calls.specs.Change.{store_fault, write_lent_fault, write_later_fault, write_fault_by, write_unless, write_result_by, write_result}
use Rattle.calls.specs.Change.{remove_later_fault}
use Rattle.calls.specs.Change.{remove_fault_by, remove_unless, remove_result_by, remove_result}
use Rattle.calls.specs.Result.{CallResult}
use Rattle.calls.specs.BasketItems.{KeyChange}
use Rattle.calls.specs.BasketRefusals.{given_fault, basket_lent_fault, keys_fault, sum_over, inserts_by, removes_by, basket_fault_by}
use Rattle.calls.specs.Basket.{basket_unless, basket_result_by, basket_result}
use Rattle.plainmap.specs.World.{World, Call, write, remove, get, locate, call_result, call_result_by}
use Rattle.plainmap.specs.Baskets.{Basket, basket_call_result, basket_call_result_by}
use Rattle.plainmap.specs.Accepted.{Accepted}
use Rattle.plainmap.specs.Plain.{PlainMap}
use Rattle.plainmap.specs.Consistency.{IndexConsistent, Refines}
use Rattle.plainmap.proofs.SoundAfter.{same_slots, spares, older}

module _ (l : ℕ) (lay : Layout l) (w : World) (chains : Chain → List ℕ) (accepted : Accepted l w.image) (g : IndexConsistent l w chains)
    (none_void : NoneVoid (contents_of l w.image) (size_fields_of l w.image) (slots_in w.image)) where
  abbrev f : Table
  f = contents_of l w.image

  abbrev n : ℕ
  n = slots_in w.image

  newest_here : IsNewest f n w.index.state.newest
  newest_here = alike_newest (table_of l w.image) f n (λ t i. sym (same_slots l w chains g none_void t i)) w.index.state.newest g.newest

  -- THE SLOTS are those of the rule
  own_rule : (wanted : ℕ) → own_allocation l w.image w.index.next n w.index.state.first w.index.state.newest wanted
      ≡ allocation_by_rule l w.image w.index.next n w.index.state.first wanted
  own_rule wanted =
      own_taken l w.image w.index.heads w.index.next w.index.state n (length w.index.heads) _ chains wanted g.index
      (spares l w chains g none_void) (older l w chains g none_void) newest_here

  choice_rule : (wanted : ℕ) → allocation_chosen l w.image w.index.next n w.index.state.first wanted
      ≡ allocation_by_rule l w.image w.index.next n w.index.state.first wanted
  choice_rule wanted =
      choice_own l w.image w.index.heads w.index.next w.index.state n (length w.index.heads) _ chains wanted g.index
      (spares l w chains g none_void) (older l w chains g none_void)

  own_write : (mode : Mode) (key : ℕ) (value : List ℕ)
      → write_result_by true l w.image w.index mode key value ≡ write_result l w.image w.index mode key value
  unfolding write_result_by write_fault_by allocation_by
  own_write mode key value =
      ap (λ (t : Allocation). write_unless
      (or_else (write_lent_fault l w.image (length w.index.heads) (length w.index.next) (length value))
      (write_later_fault mode (search l w.image w.index.heads w.index.next key) t n w.index.state))
      l w.image w.index key value w.index.state.first (take_first w.index))
      (own_rule 1)

  own_remove : (key : ℕ)
      → remove_result_by true l w.image w.index key ≡ remove_result l w.image w.index key
  unfolding remove_result_by remove_fault_by allocation_by
  own_remove key =
      ap (λ (t : Allocation). remove_unless
      (or_else (lent_fault l w.image (length w.index.heads) (length w.index.next))
      (remove_later_fault (search l w.image w.index.heads w.index.next key) t n w.index.state))
      l w.image w.index key w.index.state.first (take_first w.index))
      (own_rule 1)

  own_basket : (changes : List KeyChange) (at words : ℕ)
      → basket_result_by true l w.image w.index changes at words
      ≡ basket_result l w.image w.index changes at words
  unfolding basket_result_by basket_fault_by allocation_by allocation_chosen_by
  own_basket changes at words =
      ap₂ by (own_rule (length changes)) (own_rule (length changes) ∙ sym (choice_rule (length changes)))
    where
      by : (t c : Allocation) → CallResult
      by t c =
          basket_unless
          (or_else (given_fault changes at words)
          (or_else (basket_lent_fault l w.image (length w.index.heads) (length w.index.next) changes)
          (or_else (keys_fault (search l w.image w.index.heads w.index.next) changes)
          (store_fault t n w.index.state (sum_over inserts_by changes) (sum_over removes_by changes)))))
          l w.image w.index changes c

-- ---- where the set is a plain map

module _ (l : ℕ) (lay : Layout l) (w : World) (m : PlainMap) (g : Refines l w m) where
  -- THE CALLS FOR THE OWNER ARE THE CALLS
  pub either_called : (own : Bool) (call : Call) → call_result_by own l w call ≡ call_result l w call
  unfolding call_result_by call_result
  either_called true (write mode key value) = (own_write l lay w g.chains g.accepted g.consistent g.none_void mode key value)
  either_called true (remove key) = (own_remove l lay w g.chains g.accepted g.consistent g.none_void key)
  either_called false (write mode key value) = refl
  either_called false (remove key) = refl
  either_called own (get key out) = refl
  either_called own (locate key) = refl

  pub either_basket_called : (own : Bool) (b : Basket) → basket_call_result_by own l w b ≡ basket_call_result l w b
  unfolding basket_call_result_by basket_call_result
  either_basket_called false b = refl
  either_basket_called true b =
      own_basket l lay w g.chains g.accepted g.consistent g.none_void b.changes b.at b.words
