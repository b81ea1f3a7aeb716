-- The refusals of the calls where the image is accepted and the index is its own: those that the rules leave. Assumes nothing.
use mathlib.Core.Path.{◌≡◌, refl, sym, ap, ap₂, ◌∙◌}
use mathlib.Core.Bool.{Bool, true, false, cond}
use mathlib.Core.Option.{Option, some}
use mathlib.Core.List.{List}
use Prim.Native.Nat.{ℕ, ◌+◌, ◌≤◌, ◌<◌}
use native.Mathlib.Omega.{arith}
use lib.Dec.{ltb, leb}
use lib.ListN.{length}
use borrow.Author.Tests.{ne_eqb, le-ltb}
use Rattle.prelude.specs.Refusal.{refuse_if, or_else}
use Rattle.prelude.proofs.Choice.{true-false}
use Rattle.prelude.proofs.Count.{count_less}
use Rattle.prelude.specs.Filter.{filter}
use Rattle.layout.specs.Record.{limit}
use Rattle.layout.specs.Header.{lent_fault}
use Rattle.prelude.proofs.Refusals.{refuse_if-false, or_else_later}
use Rattle.layout.specs.Content.{Table}
use Rattle.layout.specs.Content.{contents_of, size_fields_of}
use Rattle.table.specs.Complete.{table_of, NoneVoid}
use Rattle.table.specs.Takeable.{may_take, takeable_count}
use Rattle.table.proofs.Alike.{alike_takeable}
use Rattle.table.proofs.TakeableCount.{takeable-count}
use Rattle.table.specs.Table.{value_in, map_of, live, live_count, is_held}
use Rattle.prelude.specs.Members.{Slot}
use Rattle.index.specs.Index.{Index, Chain, reuse}
use Rattle.index.specs.Linked.{ChainsPartition}
use Rattle.index.specs.Walk.{search, chain_fault}
use Rattle.index.specs.Change.{inserts_of, key_fault, is_found}
use Rattle.index.specs.Allocation.{Allocation, ends_fault, link_fault, few_fault, reuse_fault, room_fault}
use Rattle.index.proofs.defs.TakenIn.{taken_in}
use Rattle.index.proofs.Allocations.{sits_taking, few_exact, links_fine}
use Rattle.allocation.specs.Allocation.{allocation_by_rule, allocation_by}
use Rattle.layout.specs.Line.{version_fault}
use Rattle.index.specs.declared.Found.{Found}
use Rattle.index.specs.declared.Mode.{Mode}
use Rattle.index.specs.declared.State.{State}
use Rattle.index.proofs.Sits.{sits_first, sits_last}
use Rattle.calls.specs.Change.{store_fault, write_fault_by, write_lent_fault, write_later_fault, write_fault}
use Rattle.calls.specs.Change.{remove_fault_by, remove_later_fault, remove_fault}
use Rattle.calls.specs.Get.{length_fault, get_later_fault, get_fault}
use Rattle.plainmap.specs.World.{World, write, remove, get}
use Rattle.layout.specs.Size.{slots_in}
use Rattle.plainmap.specs.Plain.{size_of, room_rule, rule_fault}
use Rattle.plainmap.specs.Accepted.{Accepted}
use Rattle.plainmap.specs.Consistency.{Starts, starts, IndexConsistent}
use Rattle.plainmap.specs.Claims.{slots_map, room_of, expected_refusal}
use Rattle.plainmap.proofs.AcceptedImages.{accepted_right}
use Rattle.plainmap.proofs.Sees.{Sees, sees_held, sees_absent, sound_sees}
use Rattle.plainmap.proofs.Values.{KeepsValue, live_keeps}
use Rattle.plainmap.proofs.SoundAfter.{same_slots, spares}

-- ---- refusals that are not due

-- 11 by the ends of the reuse chain
ends_fine : (n b : ℕ) (place : ℕ → Chain) (i : Index) (chains : Chain → List ℕ) → ChainsPartition n b place i chains → Starts (chains reuse)
    → ends_fault n i.state.first i.state.last ≡ 0
unfolding ends_fault
ends_fine n b place i chains g (starts t rest e) =
    let first = sits_first n b place i chains g t rest e in
    let last = sits_last n b place i chains g t rest e in
    refuse_if-false _ 11 _ (ne_eqb i.state.first 0 (λ z. omega (arith, first.1))) ∙ refuse_if-false _ 11 _ (le-ltb n i.state.first first.2)
    ∙ refuse_if-false _ 11 _ (ne_eqb i.state.last 0 (λ z. omega (arith, last.0))) ∙ refuse_if-false _ 11 _ (le-ltb n i.state.last last.1)

-- ---- rows of refusals

two_twenty_eight : (a b : Bool) (later : ℕ) → or_else (or_else (refuse_if a 28 0) (refuse_if b 28 0)) later ≡ refuse_if a 28 (refuse_if b 28 later)
unfolding or_else refuse_if
two_twenty_eight true b later = refl
two_twenty_eight false true later = refl
two_twenty_eight false false later = refl

pub long_first : (long : Bool) (later : ℕ) → or_else (refuse_if long 10 0) later ≡ refuse_if long 10 later
unfolding or_else refuse_if
long_first true later = refl
long_first false later = refl

-- a live slot is counted
live_counted : (f : Table) (n s : ℕ) → Slot n s → live f n s ≡ true → 0 < live_count f n
unfolding live_count
live_counted f n s i e =
    omega (arith, count_less (live f n) (λ (t : ℕ). false) n s i refl e (λ t j z. absurd (true-false z refl)))

-- ---- the checks after 4, by what the search found

module _ (f : Table) (n key : ℕ) (chain : List ℕ) where
  -- 11 by the key's chain
  sees_whole : (found : Found) → Sees f n key chain found → chain_fault found ≡ 0
  unfolding chain_fault
  sees_whole found (sees_held xs ys v d p i q e m u) = refl
  sees_whole found (sees_absent p m) = refl

  write_checks : (mode : Mode) (taking : Allocation) (s : State) (found : Found) → Sees f n key chain found
      → write_later_fault mode found taking n s ≡ or_else (key_fault mode (is_held (map_of f n key))) (store_fault taking n s (inserts_of mode) 0)
  unfolding write_later_fault chain_fault is_found or_else is_held
  write_checks mode taking s found (sees_held xs ys v d p i q e m u) =
      sym (ap (λ (o : Option (List ℕ)). or_else (key_fault mode (is_held o)) (store_fault taking n s (inserts_of mode) 0)) m)
  write_checks mode taking s found (sees_absent p m) =
      sym (ap (λ (o : Option (List ℕ)). or_else (key_fault mode (is_held o)) (store_fault taking n s (inserts_of mode) 0)) m)

  remove_checks : (taking : Allocation) (s : State) (row : ℕ) → (0 < live_count f n → store_fault taking n s 0 1 ≡ row) → (found : Found)
      → Sees f n key chain found → remove_later_fault found taking n s ≡ cond (is_held (map_of f n key)) row 0
  unfolding remove_later_fault is_held
  remove_checks taking s row z found (sees_held xs ys v d p i q e m u) =
      z (live_counted f n _ i e) ∙ sym (ap (λ (o : Option (List ℕ)). cond (is_held o) row 0) m)
  remove_checks taking s row z found (sees_absent p m) = sym (ap (λ (o : Option (List ℕ)). cond (is_held o) row 0) m)

  get_checks : (l : ℕ) (image : List ℕ) (size : ℕ)
      → ((t : ℕ) (v : List ℕ) → Slot n t → live f n t ≡ true → value_in (f t) ≡ some v → KeepsValue l image t v)
      → (found : Found) → Sees f n key chain found → get_later_fault l image size found ≡ refuse_if (ltb size (size_of (map_of f n key))) 13 0
  unfolding get_later_fault length_fault size_of
  get_checks l image size keeps found (sees_held xs ys v d p i q e m u) =
      let k = keeps _ v i e u in
      refuse_if-false _ 23 _ (le-ltb (limit l) _ (omega (arith, k.size, k.fits)))
      ∙ ap (λ (x : ℕ). refuse_if (ltb size x) 13 0) (k.size ∙ sym (ap size_of m))
  get_checks l image size keeps found (sees_absent p m) = sym (refuse_if-false _ 13 0 (le-ltb size _ (omega (arith, ap size_of m))))

-- ---- in a sound world

module _ (l : ℕ) (w : World) (chains : Chain → List ℕ) (a : Accepted l w.image) (s : IndexConsistent l w chains) where
  -- 1, 2, 3, 4 are not due
  pub sound_lent : lent_fault l w.image (length w.index.heads) (length w.index.next) ≡ 0
  unfolding lent_fault
  sound_lent = or_else_later _ _ a.header ∙ s.size

  -- nor is 11: by the key's chain and by reuse
  pub sound_chain : (key : ℕ) → chain_fault (search l w.image w.index.heads w.index.next key) ≡ 0
  sound_chain key = sees_whole (table_of l w.image) (slots_in w.image) key _ _ (sound_sees l w chains s key)

  module _ (none_void : NoneVoid (contents_of l w.image) (size_fields_of l w.image) (slots_in w.image)) where
    abbrev n : ℕ
    n = slots_in w.image

    abbrev f : Table
    f = contents_of l w.image

    abbrev taking : ℕ → Allocation
    taking wanted = allocation_by_rule l w.image w.index.next n w.index.state.first wanted

    taking_is : (wanted : ℕ) → taking wanted ≡ taken_in (may_take f n) 0 wanted (chains reuse)
    unfolding allocation_by_rule
    taking_is wanted = sits_taking n (length w.index.heads) _ w.index chains s.index (may_take f n) wanted

    -- how many slots may be taken
    pub taking_count : length (filter (may_take f n) (chains reuse)) ≡ takeable_count (table_of l w.image) n
    taking_count =
        takeable-count f n (chains reuse) (spares l w chains s none_void)
        ∙ sym (alike_takeable f (table_of l w.image) n (same_slots l w chains s none_void))

    -- 28 by them
    taking_few : (wanted : ℕ) → few_fault (taking wanted) ≡ refuse_if (ltb (takeable_count (table_of l w.image) n) wanted) 28 0
    taking_few wanted =
        ap few_fault (taking_is wanted) ∙ few_exact (may_take f n) 0 wanted (chains reuse)
        ∙ ap (λ (x : ℕ). refuse_if (ltb x wanted) 28 0) taking_count

    -- 11 (REUSE), 28 AND 9 of a call that wants so many slots, inserts and removes so many keys
    pub store_row : (wanted inserts removes : ℕ) → removes ≤ live_count (table_of l w.image) n
        → store_fault (taking wanted) n w.index.state inserts removes ≡ room_rule (room_of l w.image) wanted inserts removes
    unfolding store_fault reuse_fault room_fault room_rule
    store_row wanted inserts removes few =
        or_else_later _ _
        (or_else_later _ _ (ends_fine _ _ _ w.index chains s.index s.some_spare)
        ∙ or_else_later _ _ (refuse_if-false _ 11 0 (le-ltb w.index.state.live removes (omega (arith, s.live-count))))
        ∙ ap link_fault (taking_is wanted) ∙ links_fine (may_take f n) 0 wanted (chains reuse))
        ∙ ap₂ (λ (x y : ℕ). or_else (or_else x (refuse_if (leb (n + removes) (y + inserts)) 28 0)) (version_fault w.index.state.version)) (taking_few wanted)
        s.live-count
        ∙ two_twenty_eight _ _ _
        ∙ ap
        (λ (v : ℕ). refuse_if (ltb (takeable_count (table_of l w.image) n) wanted) 28
        (refuse_if (leb (n + removes) (live_count (table_of l w.image) n + inserts)) 28 (version_fault v)))
        s.next-version

    -- INSERT AND REPLACE are refused where the rules refuse them
    pub write-fault : (mode : Mode) (key : ℕ) (value : List ℕ)
        → write_fault l w.image w.index mode key (length value) ≡ expected_refusal l w (slots_map l w.image) (write mode key value)
    unfolding write_fault_by write_lent_fault rule_fault allocation_by
    write-fault mode key value =
        ap (λ (x : ℕ). or_else x (write_later_fault mode (search l w.image w.index.heads w.index.next key) (taking 1) n w.index.state))
        (or_else_later _ _ sound_lent)
        ∙ long_first (ltb (limit l) (length value)) _
        ∙ ap (refuse_if (ltb (limit l) (length value)) 10)
        (write_checks (table_of l w.image) n key _ mode (taking 1) w.index.state _ (sound_sees l w chains s key)
        ∙ ap (or_else (key_fault mode (is_held (slots_map l w.image key)))) (store_row 1 (inserts_of mode) 0 (omega arith)))

    -- REMOVE is refused where the rules refuse it
    pub remove-fault : (key : ℕ) → remove_fault l w.image w.index key ≡ expected_refusal l w (slots_map l w.image) (remove key)
    unfolding remove_fault_by allocation_by rule_fault
    remove-fault key =
        or_else_later _ _ sound_lent
        ∙ remove_checks (table_of l w.image) n key _ (taking 1) w.index.state _ (λ some. store_row 1 0 1 some) _ (sound_sees l w chains s key)

  -- GET is refused where the rules refuse it: with 13 alone
  pub get-fault : (key : ℕ) (out : List ℕ)
      → get_fault l w.image w.index.heads w.index.next key (length out) ≡ expected_refusal l w (slots_map l w.image) (get key out)
  unfolding get_fault rule_fault
  get-fault key out =
      or_else_later _ _ sound_lent
      ∙ get_checks (table_of l w.image) (slots_in w.image) key _ l w.image (length out)
      (live_keeps l w.image (accepted_right l w.image a)) _ (sound_sees l w chains s key)
