-- A set whose index is its image's own and that has no void record; and its index after a call that is done, which is the image's own again. Assumes nothing.
use mathlib.Core.Path.{◌≡◌, refl, sym, ap, ◌∙◌, subst}
use mathlib.Core.Bool.{true}
use mathlib.Core.List.{List}
use Prim.Native.Nat.{ℕ, ◌+◌, ◌%◌, ◌^◌, ◌<◌}
use native.Mathlib.Nat.{mod-lt}
use native.Mathlib.Omega.{arith}
use lib.ListN.{length}
use Rattle.prelude.specs.Members.{In, Slot}
use Rattle.layout.specs.Size.{slots_in}
use Rattle.layout.specs.Header.{index_fault}
use Rattle.layout.specs.Content.{highest_whole_in, Table, contents_of, size_fields_of}
use Rattle.layout.proofs.Lents.{index_sized}
use Rattle.table.specs.Table.{decider, map_of, live, live_count, next_version}
use Rattle.table.specs.Complete.{settled, table_of, NoneVoid}
use Rattle.table.specs.Reuse.{OlderFirst, HighestLast, BrokenFirst}
use Rattle.table.proofs.defs.Write.{Above, holder}
use Rattle.table.proofs.defs.Reuse.{Spares}
use Rattle.table.proofs.defs.Basket.{Basket, HeldRemoved}
use Rattle.table.proofs.defs.Struck.{Struck, Finished}
use Rattle.table.proofs.defs.ReuseAfter.{reuse_after}
use Rattle.table.proofs.defs.Owners.{owner_in, moved}
use Rattle.table.proofs.Complete.{settled_same}
use Rattle.table.proofs.Alike.{alike_decider, alike_map, alike_live, alike_older_first}
use Rattle.table.proofs.Held.{holder_held}
use Rattle.table.proofs.Write.{above_next}
use Rattle.table.proofs.Broken.{broken_carry}
use Rattle.table.proofs.Finished.{finished_settled, finished_next, finished_newest}
use Rattle.table.proofs.ReuseAfter.{finished_first}
use Rattle.table.proofs.OrderAfter.{finished_older, finished_highest_last}
use Rattle.table.proofs.Owners.{finished_owner}
use Rattle.index.specs.Index.{Index, Chain, reuse, head, head_of, with_counts}
use Rattle.index.specs.Linked.{ChainsPartition}
use Rattle.recovery.specs.Recover.{place_of}
use Rattle.plainmap.specs.World.{World}
use Rattle.plainmap.specs.Consistency.{IndexConsistent}
use Rattle.plainmap.proofs.Sees.{same_place, sound_spares}
use Rattle.plainmap.proofs.Sounds.{sound_parts}

module _ (l : ℕ) (w : World) (chains : Chain → List ℕ) (g : IndexConsistent l w chains)
    (none_void : NoneVoid (contents_of l w.image) (size_fields_of l w.image) (slots_in w.image)) where
  abbrev n : ℕ
  n = slots_in w.image

  abbrev f : Table
  f = contents_of l w.image

  abbrev b : ℕ
  b = length w.index.heads

  -- the chain of a key
  abbrev home : ℕ → Chain
  home k = head (head_of k b)

  -- the settled table has what the slots hold
  pub same_slots : (t : ℕ) → Slot n t → table_of l w.image t ≡ f t
  same_slots t i = settled_same f (size_fields_of l w.image) n t (none_void t i)

  pub same_live : (t : ℕ) → Slot n t → live (table_of l w.image) n t ≡ live f n t
  same_live = alike_live f (table_of l w.image) n same_slots

  -- THE REUSE CHAIN holds the slots that are not live
  pub spares : Spares f n (chains reuse)
  spares =
      let s = sound_spares l w chains g in
      record {
        slot = s.slot;
        idle = λ t m. sym (same_live t (s.slot t m)) ∙ s.idle t m;
        all = λ t i e. s.all t i (same_live t i ∙ e);
        once = s.once;
      }

  pub older : OlderFirst f (chains reuse)
  older =
      alike_older_first (table_of l w.image) f n (λ t i. sym (same_slots t i)) (chains reuse) spares.slot g.older

  pub broken : BrokenFirst f (chains reuse)
  broken = broken_carry (table_of l w.image) f (chains reuse) (λ x m. sym (same_slots x (spares.slot x m))) g.broken

  -- the map, and what a call may count on of a key and of the next version
  pub same_map : (key : ℕ) → map_of (table_of l w.image) n key ≡ map_of f n key
  same_map key = alike_map f (table_of l w.image) n same_slots key

  pub above : Above f n (next_version (table_of l w.image) n)
  above t i = omega (arith, above_next (table_of l w.image) n t i, ap highest_whole_in (same_slots t i))

  pub head_in : (key : ℕ) → head_of key b < b
  head_in key = mod-lt (key % 2 ^ 64) (index_sized n b (length w.index.next) g.size).0

  -- the slot that holds a key
  pub holder_at : (key old : ℕ) → Slot n old → decider (table_of l w.image) n key ≡ old → live (table_of l w.image) n old ≡ true → holder f n key ≡ old
  holder_at key old j d a =
      let x = sym (alike_decider f (table_of l w.image) n same_slots key) ∙ d in
      holder_held f n key (ap (live f n) x ∙ sym (same_live old j) ∙ a) ∙ x

  module _ (taken : List ℕ) (new : Table) (image' : List ℕ) (en : slots_in image' ≡ n)
      (bk : Basket f (size_fields_of l w.image) n (next_version (table_of l w.image) n) taken new)
      (st : Struck f (contents_of l image') (size_fields_of l w.image) (size_fields_of l image') n taken new)
      (z : Finished (contents_of l image') (size_fields_of l image') taken new) where
    same_after : (t : ℕ) → Slot n t → table_of l image' t ≡ contents_of l image' t
    same_after t i =
        ap (λ (x : ℕ). settled (contents_of l image') (size_fields_of l image') x t) en ∙ finished_settled bk st z t i

    place_owner : (c : Table) (m : ℕ) (t : ℕ) → place_of c m b t ≡ owner_in c m home reuse t
    unfolding place_of owner_in
    place_owner c m t = refl

    -- WHERE EACH SLOT STANDS: the moves key by key
    pub place_after : (t : ℕ) → Slot n t → place_of (contents_of l image') n b t ≡ moved f n home reuse taken new (place_of (table_of l w.image) n b) t
    place_after t i =
        place_owner (contents_of l image') n t
        ∙ finished_owner bk st z home reuse (place_of (table_of l w.image) n b)
        (λ x k out. same_place f (table_of l w.image) n b x (same_slots x k) (same_live x k) ∙ place_owner f n x) t i

    -- THE INDEX AFTER IT: i, whose chains are chains'
    pub sound_after : (removes : HeldRemoved taken new (map_of f n)) (i : Index) (alive newest : ℕ) (chains' : Chain → List ℕ)
        → ChainsPartition n b (place_of (contents_of l image') n b) i chains' → chains' reuse ≡ reuse_after f n taken new (chains reuse)
        → live_count (contents_of l image') n < n → alive ≡ live_count (contents_of l image') n → In newest taken
        → IndexConsistent l (record { image = image'; index = with_counts i alive (w.index.state.version + 1) newest }) chains'
    sound_after removes i alive newest chains' q e room ea j =
        sound_parts l image' i alive (w.index.state.version + 1) newest n b (contents_of l image') chains' en same_after
        (ap (index_fault n b) (sym g.index.next_size) ∙ g.size) q
        (subst (OlderFirst (contents_of l image')) (sym e) (finished_older bk st z spares older))
        (subst (HighestLast (contents_of l image') n) (sym e) (finished_highest_last bk st z spares removes))
        (subst (BrokenFirst (contents_of l image')) (sym e) (finished_first bk st z spares broken)) room ea
        (omega (arith, g.next-version, finished_next bk st z)) (finished_newest bk st z newest j)
