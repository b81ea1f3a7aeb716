-- What insert, replace and remove do in a sound world: they are refused, store nothing, or write one record and leave a sound index. Assumes nothing.
use mathlib.Core.Path.{◌≡◌, refl, sym, ◌∙◌, subst}
use mathlib.Core.Bool.{false}
use mathlib.Core.Logic.{by_cases}
use mathlib.Core.List.{List, [], ◌∷◌, append-nil}
use Prim.Native.Nat.{ℕ, ◌+◌, ◌-◌, ◌^◌, ◌<◌}
use native.Mathlib.Decide.{ℕ_discrete}
use native.Mathlib.Omega.{arith}
use lib.ListN.{length, get_or}
use Rattle.words.specs.Word.{AreBytes}
use Rattle.prelude.specs.Members.{none_left, one_more}
use Rattle.prelude.proofs.Refusals.{refused_keeps}
use Rattle.layout.specs.Size.{slots_in}
use Rattle.layout.specs.Record.{Layout}
use Rattle.layout.specs.Content.{contents_of, size_fields_of}
use Rattle.stores.specs.Basket.{basket_stores}
use Rattle.table.specs.Complete.{size_field_for, NoneVoid}
use Rattle.index.specs.Index.{Index, Chain}
use Rattle.index.specs.Walk.{search}
use Rattle.index.specs.Allocation.{Taken}
use Rattle.index.specs.Basket.{taken_slots, basket_index}
use Rattle.index.specs.declared.Action.{Action}
use Rattle.index.specs.declared.Action.TheVariants.{Write, Remove}
use Rattle.index.specs.declared.Mode.{Mode}
use Rattle.calls.specs.Change.{changed, write_fault, write_unless, write_result, write_result_by, remove_fault, remove_unless, remove_result, remove_result_by}
use Rattle.calls.specs.BasketItems.{KeyChange}
use Rattle.calls.specs.BasketRefusals.{inserts_by, removes_by, sum_over, basket_fault}
use Rattle.calls.specs.Basket.{kind_by, value_by, records_for, items_for, index_after, basket_made}
use Rattle.calls.proofs.Singles.{one_change, slot_first, as_single, write_fault_one, made}
use Rattle.plainmap.specs.World.{World}
use Rattle.plainmap.specs.Accepted.{Accepted}
use Rattle.plainmap.specs.Consistency.{IndexConsistent}
use Rattle.plainmap.specs.Claims.{slots_map, room_of}
use Rattle.plainmap.specs.Baskets.{TypedChange}
pub use Rattle.plainmap.proofs.Wrote.{one_record, Ran, ran_refused, ran_absent, ran_wrote}
use Rattle.plainmap.proofs.Wrote.{WroteRecords}
use Rattle.plainmap.proofs.Refuses.{remove-fault}
use Rattle.plainmap.proofs.BasketRuns.{basket_passed, basket_wrote}
use Rattle.plainmap.proofs.BasketRights.{basket-fault}
use Rattle.plainmap.proofs.Singles.{one_key, remove_rule, takes, one_made, write_is, RemoveIs, of-held, of_none, remove_is, call_takes}

module _ (l : ℕ) (lay : Layout l) (w : World) (chains : Chain → List ℕ) (accepted : Accepted l w.image) (g : IndexConsistent l w chains)
    (none_void : NoneVoid (contents_of l w.image) (size_fields_of l w.image) (slots_in w.image)) where
  abbrev s : ℕ
  s = w.index.state.first

  -- what the basket of this one key is: its first slot is the only one
  module _ (action : Action) (key : ℕ) (value : List ℕ) where
    abbrev cs : List KeyChange
    cs = one_change action key value

    abbrev index_by : List Taken → Index
    index_by ts = basket_index (slots_in w.image) w.index ts (items_for (search l w.image w.index.heads w.index.next) (length w.index.heads) cs ts)

    abbrev index_is : Index
    index_is = index_by (record { slot = s; prev = 0 } ∷ [])

    abbrev alive : ℕ
    alive = w.index.state.live + sum_over inserts_by cs - sum_over removes_by cs

    made_changed : (count : ℕ) → made l w.image w.index key s count action value
        ≡ changed l w.image w.index.state s key (kind_by action) (value_by action value) index_is alive count
    unfolding changed as_single slot_first basket_made index_after basket_stores records_for taken_slots size_field_for
    made_changed count = simp append-nil refl

    module _ (z : basket_fault l w.image w.index cs 16 16 ≡ 0) where
      one_wrote : TypedChange l (record { action = action; key = key; value = value })
          → WroteRecords l w (one_record w key (kind_by action) (value_by action value)) index_is alive s
      unfolding records_for taken_slots
      one_wrote typed =
          subst (λ (ts : List Taken). WroteRecords l w (records_for cs ts) (index_by ts) alive (get_or (taken_slots ts) 0 0))
          (takes l lay w chains accepted g none_void action key value z)
          (basket_wrote l lay w chains accepted g none_void cs (basket_passed l w cs 16 16 z) (one_more typed none_left))

  -- THE CALLS
  pub write_runs : (mode : Mode) (key : ℕ) (value : List ℕ) → key < (2 ^ 64) ^ l → AreBytes value
      → Ran l w key 1 value (write_fault l w.image w.index mode key (length value))
      (write_result l w.image w.index mode key value)
  unfolding write_result_by write_unless kind_by value_by
  write_runs mode key value k b =
      by_cases (ℕ_discrete (write_fault l w.image w.index mode key (length value)) 0)
      (λ z.
      let y = write_fault_one false l w.image w.index mode key value ∙ z in
      ran_wrote z _ _ _
      (write_is l lay w chains accepted g none_void mode key value _ _ (call_takes l lay w chains accepted g none_void (Write mode) key value)
      ∙ sym (one_made l lay w chains accepted g none_void (Write mode) key value y _) ∙ made_changed (Write mode) key value _)
      (one_wrote (Write mode) key value y (record { key_fits = k; bytes = b })) (λ x. absurd (omega arith)))
      (λ nz. ran_refused nz _ (refused_keeps _ _ (write_fault l w.image w.index mode key (length value)) nz))

  pub remove_runs : (key : ℕ) → key < (2 ^ 64) ^ l
      → Ran l w key 2 [] (remove_fault l w.image w.index key)
      (remove_result l w.image w.index key)
  unfolding remove_result_by remove_unless kind_by value_by
  remove_runs key k =
      by_cases (ℕ_discrete (remove_fault l w.image w.index key) 0) (λ z. go z (remove_is l lay w chains accepted g none_void key))
      (λ nz. ran_refused nz _ (refused_keeps _ _ (remove_fault l w.image w.index key) nz))
    where
      go : remove_fault l w.image w.index key ≡ 0 → RemoveIs l lay w chains accepted g none_void key
          → Ran l w key 2 [] (remove_fault l w.image w.index key) (remove_result l w.image w.index key)
      go z (of-held h q) =
          let y =
          basket-fault l lay w chains accepted g none_void (one_key Remove key []) ∙ remove_rule l (room_of l w.image) (slots_map l w.image) key h
          ∙ sym (remove-fault l w chains accepted g none_void key) ∙ z in
          ran_wrote z _ _ _
          (q _ _ (call_takes l lay w chains accepted g none_void Remove key [])
          ∙ sym (one_made l lay w chains accepted g none_void Remove key [] y _) ∙ made_changed Remove key [] _)
          (one_wrote Remove key [] y (record { key_fits = k; bytes = λ j. omega arith })) (λ x. h)
      go z (of_none m q) = ran_absent z refl _ (q _ _) m
