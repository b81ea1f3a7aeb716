-- Recovery's invalidating stores: any of them leave the table as it was, and after all of them no record is void. Assumes nothing.
use mathlib.Core.Path.{◌≡◌, refl, sym, ap, ap₂, ◌∙◌, subst}
use mathlib.Core.List.{List, [], ◌∷◌}
use Prim.Native.Nat.{ℕ, ◌+◌, ◌*◌, ◌/◌, ◌≤◌, ◌<◌}
use native.Mathlib.Omega.{arith}
use lib.ListN.{length}
use Rattle.words.specs.Word.{word}
use Rattle.prelude.specs.Members.{All, none_left, one_more}
use Rattle.layout.specs.Size.{slots_of, slots_in}
use Rattle.layout.specs.Record.{Layout}
use Rattle.layout.specs.Header.{index_fault}
use Rattle.layout.specs.Content.{Table, contents_of, size_fields_of}
use Rattle.stores.specs.Store.{Store, played, standing}
use Rattle.stores.specs.Invalidation.{invalidating_stores}
use Rattle.stores.proofs.Bytes.{played-length}
use Rattle.stores.proofs.Invalidation.{invalidating_all, invalidating_inside}
use Rattle.stores.proofs.defs.Cut.{StoresInside}
use Rattle.table.specs.Table.{map_of}
use Rattle.table.specs.Complete.{settled, table_of, NoneVoid}
use Rattle.table.proofs.Opened.{opened_settled}
use Rattle.index.specs.Index.{Chain}
use Rattle.recovery.specs.Invalidation.{void_slots, invalidations_of, stores_in}
use Rattle.recovery.specs.Recover.{Recovery, recovered, recover_result}
use Rattle.recovery.proofs.Clear.{slots_clear}
use Rattle.recovery.proofs.Void.{few_void}
use Rattle.recovery.proofs.InvalidatingStores.{stores_back, invalidations_length}
use Rattle.recovery.proofs.Lent.{recovery_taken}
use Rattle.table.proofs.Invalidations.{voids, voids_once, void_slot, opened_image, all_opened, opened_at, opened_full}
use Rattle.table.proofs.Right.{right_opened}
use Rattle.plainmap.specs.World.{World, Round, after_round, after_rounds}
use Rattle.plainmap.specs.Accepted.{Accepted, RightSize}
use Rattle.plainmap.specs.Consistency.{IndexConsistent}
use Rattle.plainmap.specs.Claims.{slots_map}
use Rattle.plainmap.proofs.AcceptedImages.{accepted_long, accepted_right, accepted_recovers}
use Rattle.plainmap.proofs.Struck.{stays_accepted}

-- images with one table and as many slots
pub record SameTable (l : ℕ) (image image' : List ℕ) : Type 0 where
  pub slots : slots_in image' ≡ slots_in image
  pub table : table_of l image' ≡ table_of l image

-- a sound index is sound for an image with the same table
pub sound_same : (l : ℕ) (w : World) (chains : Chain → List ℕ) (image' : List ℕ) → SameTable l w.image image' → IndexConsistent l w chains
    → IndexConsistent l (record { image = image'; index = w.index }) chains
sound_same l w chains image' same s =
    record {
      size = ap (λ (x : ℕ). index_fault x (length w.index.heads) (length w.index.next)) same.slots ∙ s.size;
      index = rw (same.table, same.slots) s.index;
      older = rw same.table s.older;
      highest = rw (same.table, same.slots) s.highest;
      broken = rw same.table s.broken;
      some_spare = s.some_spare;
      live-count = rw (same.table, same.slots) s.live-count;
      next-version = rw (same.table, same.slots) s.next-version;
      newest = rw (same.table, same.slots) s.newest;
    }

module _ (l : ℕ) (lay : Layout l) (image : List ℕ) (accepted : Accepted l image) where
  abbrev n : ℕ
  n = slots_in image

  pub size : length image ≡ 128 * (n + 1)
  size = omega (arith, (accepted_long l image accepted).size)

  abbrev stores : List Store
  stores = invalidating_stores (word image) (voids l lay image n size)

  few_stores : length stores ≤ 8
  unfolding void_slots
  few_stores =
      omega (
        arith,
        invalidations_length (word image) (voids l lay image n size),
        few_void l (word image) n (slots_clear l (word image) n accepted.records).few_broken,
      )

  -- WHAT RECOVERY HANDS OUT
  pub handed_out : (heads next : List ℕ) → RightSize image heads next → stores_in (recover_result l image heads next).invalidations ≡ stores
  unfolding recovered void_slots
  handed_out heads next fits =
      ap (λ (r : Recovery). stores_in r.invalidations)
      (recovery_taken l image heads next (accepted_recovers l image (length heads) (length next) accepted fits))
      ∙ stores_back stores few_stores

  pub few_handed : (heads next : List ℕ) → RightSize image heads next → length (stores_in (recover_result l image heads next).invalidations) ≤ 8
  few_handed heads next fits = omega (arith, ap (λ (ss : List Store). length ss) (handed_out heads next fits), few_stores)

  pub invalidating_stores_inside : StoresInside (length image) stores
  invalidating_stores_inside =
      invalidating_inside (word image) (length image) (voids l lay image n size) (λ s i. omega (arith, size, void_slot l lay image n size s i))

  module _ (counts : ℕ → ℕ) where
    abbrev opened : List ℕ
    opened = opened_image l lay image n size counts

    opened-length : length opened ≡ length image
    opened-length = played-length (standing counts stores) image

    -- ANY OF THEM leave an accepted image with the same table
    pub opened_same : SameTable l image opened
    opened_same =
        record {
          slots = ap slots_of opened-length;
          table =
              ap (λ (x : ℕ). settled (contents_of l opened) (size_fields_of l opened) x) (ap slots_of opened-length)
              ∙ opened_settled {f = contents_of l image} {f' = contents_of l opened} {num = size_fields_of l image} {num' = size_fields_of l opened} {n = n}
              (opened_at l lay image n size counts);
        }

    pub opened_accepts : Accepted l opened
    opened_accepts =
        stays_accepted l image opened accepted opened-length
        (λ k h. (all_opened l lay image n size counts).rest.elsewhere k (λ j. omega (arith, void_slot l lay image n size (k / 16) j)))
        (right_opened l lay image n size counts (accepted_right l image accepted))

  -- AFTER ALL OF THEM none is void
  pub all-played : played stores image ≡ opened_image l lay image n size (λ k. 8)
  all-played = ap (λ (ss : List Store). played ss image) (sym (invalidating_all (word image) l (voids l lay image n size) (voids_once l lay image n size)))

  pub none_void_after : NoneVoid (contents_of l (opened_image l lay image n size (λ k. 8))) (size_fields_of l (opened_image l lay image n size (λ k. 8))) n
  none_void_after = opened_full l lay image n size (λ k. 8) (λ s i. omega arith)

  -- one round
  pub round_same : (r : Round) → RightSize image r.lent.heads r.lent.next → after_round l image r ≡ opened_image l lay image n size r.counts
  unfolding after_round
  round_same r fits = ap (λ (ss : List Store). played (standing r.counts ss) image) (handed_out r.lent.heads r.lent.next fits)

  -- the image with all of them played
  pub opened-image : (heads next : List ℕ) → RightSize image heads next
      → played (stores_in (recover_result l image heads next).invalidations) image ≡ opened_image l lay image n size (λ k. 8)
  opened-image heads next fits = ap (λ (ss : List Store). played ss image) (handed_out heads next fits) ∙ all-played

-- the map of the slots is the same
pub same_map : (l : ℕ) (image image' : List ℕ) → SameTable l image image' → (k : ℕ) → slots_map l image' k ≡ slots_map l image k
same_map l image image' same k = ap₂ (λ (f : Table) (x : ℕ). map_of f x k) same.table same.slots
