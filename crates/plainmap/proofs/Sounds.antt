-- Sound indexes: from the parts, and from recovery. Assumes nothing.
use mathlib.Core.Path.{◌≡◌, refl, sym, ap, ap₂, ◌∙◌, subst}
use mathlib.Core.List.{List, ◌∷◌}
use Prim.Native.Nat.{ℕ, ◌+◌, ◌≤◌, ◌<◌}
use native.Mathlib.Omega.{arith}
use lib.ListN.{length}
use Rattle.layout.specs.Header.{index_fault}
use Rattle.prelude.specs.Members.{In, Slot}
use Rattle.layout.specs.Content.{Table}
use Rattle.stores.specs.Store.{Store}
use Rattle.table.specs.Complete.{table_of}
use Rattle.table.specs.Table.{live, live_count, next_version}
use Rattle.table.proofs.defs.Write.{ApartByKey}
use Rattle.table.specs.Reuse.{OlderFirst, HighestLast, BrokenFirst}
use Rattle.table.specs.Takeable.{IsNewest}
use Rattle.table.proofs.Alike.{alike_live, alike_count, alike_next, alike_older_first, alike_highest_last, alike_newest}
use Rattle.table.proofs.Broken.{broken_carry}
use Rattle.prelude.proofs.Count.{Gap, gap}
use Rattle.table.proofs.LiveCount.{room_spare}
use Rattle.table.proofs.ReuseOrder.{recovery_older, recovery_highest_last}
use Rattle.table.proofs.Recovery.{recovery_broken}
use Rattle.index.specs.Index.{Index, Chain, reuse, with_counts}
use Rattle.index.specs.Linked.{ChainsPartition}
use Rattle.index.proofs.Sits.{sits_counts, sits_has, sits_places}
use Rattle.index.specs.Chained.{chained}
use Rattle.recovery.specs.Recover.{Recovery, chains_of, place_of, recovered_index, newest_slot, recovered}
use Rattle.recovery.proofs.Represents.{recovered_sits}
use Rattle.recovery.proofs.Newest.{recovery_newest}
use Rattle.recovery.proofs.Lent.{recovery_taken}
use Rattle.layout.specs.Size.{slots_in}
use Rattle.plainmap.specs.World.{world_after, recovered_world}
use Rattle.plainmap.specs.Accepted.{Accepted, RightSize}
use Rattle.plainmap.specs.Consistency.{Starts, starts, IndexConsistent}
use Rattle.plainmap.proofs.Sees.{place_idle, same_place, sits_spares}
use Rattle.plainmap.proofs.AcceptedImages.{accepted_apart, accepted_room, accepted_recovers}
use Rattle.layout.proofs.Lents.{index_sized}

-- ---- a spare slot stands in reuse

in_starts : (t : ℕ) (xs : List ℕ) → In t xs → Starts xs
in_starts t mathlib.Core.List.[] i = elim i [ ]
in_starts t (x ∷ xs) i = starts x xs refl

pub room_starts : (f : Table) (n b : ℕ) (i : Index) (chains : Chain → List ℕ) → ChainsPartition n b (place_of f n b) i chains → live_count f n < n
    → Starts (chains reuse)
room_starts f n b i chains g h = go (room_spare f n h)
  where
    go : Gap (live f n) n → Starts (chains reuse)
    go (gap t j e) =
        in_starts t (chains reuse)
        (subst (λ (c : Chain). In t (chains c)) (place_idle f n b t e) (sits_has _ _ _ _ _ g t (omega (arith, j.0)) j.1))

-- ---- from the parts: f has the slots of the image's table, n is their number, b the number of heads

pub sound_parts : (l : ℕ) (image : List ℕ) (i : Index) (alive version newest n b : ℕ) (f : Table) (chains : Chain → List ℕ)
    → slots_in image ≡ n → ((t : ℕ) → Slot n t → table_of l image t ≡ f t) → index_fault n b (n + 1) ≡ 0 → ChainsPartition n b (place_of f n b) i chains
    → OlderFirst f (chains reuse) → HighestLast f n (chains reuse) → BrokenFirst f (chains reuse)
    → live_count f n < n → alive ≡ live_count f n → version ≡ next_version f n → IsNewest f n newest
    → IndexConsistent l (record { image = image; index = with_counts i alive version newest }) chains
sound_parts l image i alive version newest n b f chains en ef size g older highest broken room ea ev latest =
    record {
      size = ap₂ (λ (x y : ℕ). index_fault (slots_in image) x y) g.heads_size g.next_size ∙ ap (λ (x : ℕ). index_fault x b (n + 1)) en ∙ size;
      index =
          sits_counts _ _ _ i chains
          (subst (λ (x : ℕ). ChainsPartition (slots_in image) x (place_of (table_of l image) (slots_in image) x) i chains) (sym g.heads_size)
          (subst (λ (x : ℕ). ChainsPartition x b (place_of (table_of l image) x b) i chains) (sym en)
          (sits_places n b (place_of f n b) (place_of (table_of l image) n b) i chains g (λ x lo hi. place_alike x (omega arith, hi)))))
          alive version newest;
      older = alike_older_first f (table_of l image) n ef (chains reuse) slot older;
      highest =
          subst (λ (x : ℕ). HighestLast (table_of l image) x (chains reuse)) (sym en)
          (alike_highest_last f (table_of l image) n ef (chains reuse) slot highest);
      broken = broken_carry f (table_of l image) (chains reuse) (λ x m. ef x (slot x m)) broken;
      some_spare = room_starts f n b i chains g room;
      live-count = ea ∙ sym (ap (live_count (table_of l image)) en ∙ alike_count f (table_of l image) n ef);
      next-version = ev ∙ sym (ap (next_version (table_of l image)) en ∙ alike_next f (table_of l image) n ef);
      newest = subst (λ (x : ℕ). IsNewest (table_of l image) x newest) (sym en) (alike_newest f (table_of l image) n ef newest latest);
    }
  where
    slot : (t : ℕ) → In t (chains reuse) → Slot n t
    slot = (sits_spares f n b i chains g).slot

    place_alike : (x : ℕ) → Slot n x → place_of (table_of l image) n b x ≡ place_of f n b x
    place_alike x k = same_place f (table_of l image) n b x (ef x k) (alike_live f (table_of l image) n ef x k)

-- ---- from recovery

recovered_parts : (l : ℕ) (image : List ℕ) (b : ℕ) (stores : List Store) → 1 ≤ b → ApartByKey (table_of l image) (slots_in image)
    → live_count (table_of l image) (slots_in image) < slots_in image → index_fault (slots_in image) b (slots_in image + 1) ≡ 0
    → IndexConsistent l (world_after image (recovered (table_of l image) (slots_in image) b stores)) (chains_of (table_of l image) (slots_in image) b)
unfolding world_after recovered recovered_index chained chains_of
recovered_parts l image b stores few d room size =
    sound_parts l image (recovered_index (table_of l image) (slots_in image) b) (live_count (table_of l image) (slots_in image))
    (next_version (table_of l image) (slots_in image)) (newest_slot (table_of l image) (slots_in image)) (slots_in image) b (table_of l image)
    (chains_of (table_of l image) (slots_in image) b) refl (λ t i. refl) size (recovered_sits (table_of l image) (slots_in image) b few)
    (recovery_older (table_of l image) (slots_in image)) (recovery_highest_last (table_of l image) (slots_in image))
    (recovery_broken (table_of l image) (slots_in image)) room refl refl (recovery_newest (table_of l image) (slots_in image))

-- RECOVERY LEAVES A SOUND INDEX
pub recovered_sound : (l : ℕ) (image heads next : List ℕ) → Accepted l image → RightSize image heads next
    → IndexConsistent l (recovered_world l image heads next) (chains_of (table_of l image) (slots_in image) (length heads))
unfolding recovered_world
recovered_sound l image heads next accepted size =
    let t = index_sized (slots_in image) (length heads) (length next) size in
    subst (λ (r : Recovery). IndexConsistent l (world_after image r) (chains_of (table_of l image) (slots_in image) (length heads)))
    (sym (recovery_taken l image heads next (accepted_recovers l image (length heads) (length next) accepted size)))
    (recovered_parts l image (length heads) _ t.0 (accepted_apart l image accepted) (accepted_room l image accepted)
    (ap (index_fault (slots_in image) (length heads)) (sym t.2) ∙ size))
