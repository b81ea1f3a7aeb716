-- An accepted image after a call's stores were played, all of them or what a cut left. Assumes nothing.
use mathlib.Core.Path.{◌≡◌, refl, sym, ap, ◌∙◌, subst}
use mathlib.Core.Bool.{Bool, true, false}
use mathlib.Core.Logic.{◌⊎◌, inl, inr, ⊎_elim}
use mathlib.Core.Option.{Option}
use mathlib.Core.List.{List, [], ◌∷◌}
use Prim.Native.Nat.{ℕ, ◌+◌, ◌*◌, ◌/◌, ◌≤◌, ◌<◌}
use native.Mathlib.Omega.{arith}
use lib.ListN.{length}
use Rattle.words.specs.Word.{word}
use Rattle.prelude.specs.Members.{All, none_left, one_more, In, Once, Slot}
use Rattle.prelude.proofs.Choice.{split, true-false}
use Rattle.layout.specs.Size.{slots_of, slots_in}
use Rattle.layout.specs.Header.{header_word}
use Rattle.layout.specs.Content.{contents_of, size_fields_of}
use Rattle.stores.specs.Store.{Store, played, standing, all_stand}
use Rattle.stores.specs.Basket.{BasketRecord, basket_slots, basket_stores}
use Rattle.stores.specs.Cut.{AllWritten}
use Rattle.stores.proofs.Bytes.{played-length}
use Rattle.stores.proofs.Basket.{basket_inside, basket_image_law}
use Rattle.stores.proofs.defs.Cut.{StoresInside}
use Rattle.table.specs.Table.{map_of}
use Rattle.table.specs.Complete.{size_field_for, settled, table_of, NoneVoid}
use Rattle.table.proofs.Complete.{settled_same}
use Rattle.table.proofs.Alike.{alike_map}
use Rattle.table.proofs.defs.Basket.{changes}
use Rattle.table.proofs.defs.Struck.{Struck, Finished, Unfinished}
use Rattle.table.proofs.Changes.{changes_same}
use Rattle.table.proofs.Finished.{finished_or, finished_map, finished_none_void}
use Rattle.table.proofs.Unfinished.{unfinished_map}
use Rattle.index.specs.Index.{Index}
use Rattle.table.proofs.defs.Entries.{record_at}
use Rattle.table.proofs.Cuts.{cut_struck, stand_finished, finished_stand}
use Rattle.table.proofs.Right.{RightSlots, right_cut}
use Rattle.plainmap.specs.World.{World}
use Rattle.plainmap.specs.Accepted.{Accepted}
use Rattle.plainmap.specs.Claims.{slots_map}
use Rattle.plainmap.proofs.AcceptedImages.{RightHeader, passed_header, right_header, right_slots, accepted_slots, accepted_long, accepted_right}
use Rattle.plainmap.proofs.Wrote.{next_of, WroteRecords}

-- an image whose header and length stay, with right slots, stays accepted
pub stays_accepted : (l : ℕ) (image image' : List ℕ) → Accepted l image → length image' ≡ length image
    → ((i : ℕ) → i < 8 → word image' i ≡ word image i) → RightSlots l (word image') (slots_in image) → Accepted l image'
stays_accepted l image image' a e same right =
    record {
      header =
          right_header l image'
          (record {
            sized = λ z. old.sized (sym (ap slots_of e) ∙ z);
            words = λ i h. same i h ∙ old.words i h ∙ sym (ap (λ (k : ℕ). header_word l (slots_of k) i) e);
          });
      records = right_slots l (word image') (slots_in image') (subst (RightSlots l (word image')) (ap slots_of (sym e)) right);
    }
  where
    old : RightHeader l image
    old = passed_header l image a.header

-- the slots of records that go to slots
inside_all : (n len : ℕ) (es : List BasketRecord) → 128 * (n + 1) ≤ len → ((t : ℕ) → In t (basket_slots es) → Slot n t)
    → All (λ (e : BasketRecord). 128 * (e.slot + 1) ≤ len) es
unfolding basket_slots
inside_all n len [] h slot = none_left
inside_all n len (e ∷ es) h slot = one_more {x = e} (omega (arith, slot e.slot (inl refl))) (inside_all n len es h (λ t i. slot t (inr i)))

module _ (l : ℕ) (w : World) (es : List BasketRecord) (i : Index) (alive newest : ℕ) (accepted : Accepted l w.image)
    (wr : WroteRecords l w es i alive newest) where
  abbrev image : List ℕ
  image = w.image

  abbrev n : ℕ
  n = slots_in image

  abbrev version : ℕ
  version = next_of l image

  -- the call's stores
  abbrev pub written : List Store
  written = basket_stores l (word image) (size_field_for (length es)) version es

  inside : All (λ (e : BasketRecord). 128 * (e.slot + 1) ≤ length image) es
  inside = inside_all n (length image) es (omega (arith, (accepted_long l image accepted).size)) wr.basket.slot

  pub stores_inside : StoresInside (length image) written
  stores_inside = basket_inside l (word image) (size_field_for (length es)) version (length image) wr.small wr.lawful inside

  module _ (counts : ℕ → ℕ) where
    -- the image after a cut
    abbrev pub struck_image : List ℕ
    struck_image = played (standing counts written) image

    pub struck_length : length struck_image ≡ length image
    struck_length = played-length (standing counts written) image

    pub struck_slots : slots_in struck_image ≡ n
    struck_slots = ap slots_of struck_length

    pub struck_written : AllWritten l (word image) (word struck_image) (size_field_for (length es)) version es counts
    struck_written =
        basket_image_law l counts image (size_field_for (length es)) version es wr.basket.once wr.lawful wr.small inside

    pub struck : Struck (contents_of l image) (contents_of l struck_image) (size_fields_of l image) (size_fields_of l struck_image) n (basket_slots es)
        (record_at version es)
    struck = cut_struck l (word image) (word struck_image) _ version es counts wr.basket.once wr.lawful refl struck_written n

    -- THE IMAGE STAYS ACCEPTED
    pub struck_accepted : Accepted l struck_image
    struck_accepted =
        stays_accepted l image struck_image accepted struck_length
        (λ k h. struck_written.rest.elsewhere k (λ j. omega (arith, wr.basket.slot (k / 16) j)))
        (right_cut l (word image) (word struck_image) n _ version es counts wr.basket.once wr.lawful refl struck_written
        (accepted_right l image accepted) wr.basket wr.broken wr.room)

    -- all stores stand: all records are written, and none is void
    pub whole_finished : all_stand counts written ≡ true → Finished (contents_of l struck_image) (size_fields_of l struck_image) (basket_slots es)
        (record_at version es)
    whole_finished =
        stand_finished l (word image) (word struck_image) _ version es counts wr.basket.once wr.lawful refl struck_written

    pub whole_none_void : all_stand counts written ≡ true → NoneVoid (contents_of l struck_image) (size_fields_of l struck_image) n
    whole_none_void all = finished_none_void wr.basket struck (whole_finished all)

    map_before : (k : ℕ) → map_of (contents_of l image) n k ≡ slots_map l image k
    map_before k =
        sym (alike_map (contents_of l image) (table_of l image) n
        (λ t j. settled_same (contents_of l image) (size_fields_of l image) n t (wr.basket.none_void t j)) k)

    map-after : (k : ℕ) → slots_map l struck_image k ≡ map_of (settled (contents_of l struck_image) (size_fields_of l struck_image) n) n k
    map-after k = ap (λ (x : ℕ). map_of (settled (contents_of l struck_image) (size_fields_of l struck_image) x) x k) struck_slots

    -- ALL OR NOTHING
    pub whole_map : all_stand counts written ≡ true → (k : ℕ)
        → slots_map l struck_image k ≡ changes (basket_slots es) (record_at version es) (slots_map l image) k
    whole_map all k =
        map-after k ∙ finished_map wr.basket struck (whole_finished all) k
        ∙ changes_same (basket_slots es) (record_at version es) _ _ k (map_before k)

    pub torn_map : all_stand counts written ≡ false → (k : ℕ) → slots_map l struck_image k ≡ slots_map l image k
    torn_map torn k =
        map-after k
        ∙ ⊎_elim
        (λ z. absurd
        (true-false (finished_stand l (word image) (word struck_image) _ version es counts wr.basket.once wr.lawful refl struck_written z) torn))
        (λ u. unfinished_map wr.basket struck u k) (finished_or wr.basket struck)
        ∙ map_before k
