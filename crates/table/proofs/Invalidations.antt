-- What invalidating stores of the void slots make of the contents of the slots, all of them or what a cut leaves. Assumes nothing.
use mathlib.Core.Path.{◌≡◌, refl, sym, ap, ◌∙◌}
use mathlib.Core.Bool.{Bool, true, false}
use mathlib.Core.Logic.{◌⊎◌, inl, inr}
use mathlib.Core.List.{List}
use Prim.Native.Nat.{ℕ, ◌+◌, ◌*◌, ◌≤◌, ◌<◌}
use native.Mathlib.Omega.{arith}
use lib.ListN.{length}
use Rattle.words.specs.Word.{word}
use Rattle.prelude.specs.Filter.{filter}
use Rattle.prelude.specs.Members.{In, Once, Slot, slot_numbers}
use Rattle.prelude.proofs.Lists.{slots-in, in_slots, once_slots}
use Rattle.prelude.proofs.Choice.{split, true-false}
use Rattle.prelude.proofs.defs.Among.{member}
use Rattle.prelude.proofs.Among.{member_in, not_member}
use Rattle.sorting.proofs.Order.{filter_in, in_filter, filter_holds, once_filter}
use Rattle.layout.specs.Record.{Layout}
use Rattle.layout.specs.Content.{broken, content, highest_whole_in, contents_of, size_fields_of}
use Rattle.stores.specs.Store.{Store, played, standing}
use Rattle.stores.specs.Invalidation.{invalidating_stores}
use Rattle.stores.specs.Cut.{SlotInvalidated, shut as slot-shut, opened as slot_opened, AllInvalidated, Confined}
use Rattle.stores.proofs.Invalidation.{invalidating_image_law}
use Rattle.table.specs.Table.{is_record}
use Rattle.table.specs.Complete.{is_void, NoneVoid}
use Rattle.table.proofs.Complete.{void_record}
use Rattle.table.proofs.OneSlot.{broken_no_record}
use Rattle.table.proofs.defs.Struck.{Opened, shut, opened}
use Rattle.table.proofs.Opened.{opened_none_void}

module _ (l : ℕ) (lay : Layout l) (image : List ℕ) (n : ℕ) (size : length image ≡ 128 * (n + 1)) where
  -- the void slots, in their order
  abbrev pub voids : List ℕ
  voids = filter (is_void (contents_of l image) (size_fields_of l image) n) (slot_numbers n)

  pub voids_once : Once voids
  voids_once = once_filter (is_void (contents_of l image) (size_fields_of l image) n) (slot_numbers n) (once_slots n)

  pub void_slot : (s : ℕ) → In s voids → Slot n s
  void_slot s i = slots-in n s (filter_in (is_void (contents_of l image) (size_fields_of l image) n) s (slot_numbers n) i)

  pub void_in : (s : ℕ) → In s voids → is_void (contents_of l image) (size_fields_of l image) n s ≡ true
  void_in s i = filter_holds (is_void (contents_of l image) (size_fields_of l image) n) s (slot_numbers n) i

  pub in_voids : (s : ℕ) → Slot n s → is_void (contents_of l image) (size_fields_of l image) n s ≡ true → In s voids
  in_voids s i e = in_filter (is_void (contents_of l image) (size_fields_of l image) n) s (slot_numbers n) (in_slots n s i) e

  module _ (counts : ℕ → ℕ) where
    -- the image after a cut
    abbrev pub opened_image : List ℕ
    opened_image = played (standing counts (invalidating_stores (word image) voids)) image

    pub all_opened : AllInvalidated l (word image) (word opened_image) voids counts
    all_opened =
        invalidating_image_law l counts image voids voids_once lay
        (λ s i t e. true-false (void_record (contents_of l image) (size_fields_of l image) n s (void_in s i)) (broken_no_record (content l (word image) s) t e))
        (λ s i. omega (arith, void_slot s i))

    -- EACH SLOT is as it was, or was void and is broken
    pub opened_at : (t : ℕ) → Opened (contents_of l image) (contents_of l opened_image) (size_fields_of l image) (size_fields_of l opened_image) n t
    opened_at t = go (split (member voids t))
      where
        by : In t voids → SlotInvalidated l (word image) (word opened_image) t (counts (2 * t))
            → Opened (contents_of l image) (contents_of l opened_image) (size_fields_of l image) (size_fields_of l opened_image) n t
        by i (slot-shut z e d) = shut e d
        by i (slot_opened z e d) = opened (void_in t i) e

        go : (member voids t ≡ true) ⊎ (member voids t ≡ false)
            → Opened (contents_of l image) (contents_of l opened_image) (size_fields_of l image) (size_fields_of l opened_image) n t
        go (inl e) = by (member_in voids t e) (all_opened.each t (member_in voids t e))
        go (inr e) = shut (all_opened.rest.others t (not_member voids t e)) (all_opened.rest.numbers t (not_member voids t e))

    -- where each line holds a store, NO SLOT IS VOID
    pub opened_full : ((s : ℕ) → In s voids → 0 < counts (2 * s)) → NoneVoid (contents_of l opened_image) (size_fields_of l opened_image) n
    opened_full full =
        opened_none_void {f =
        contents_of l image} {f' = contents_of l opened_image} {num = size_fields_of l image} {num' = size_fields_of l opened_image} {n = n} opened_at
        (λ t i v. by t (in_voids t i v) (all_opened.each t (in_voids t i v)))
      where
        by : (t : ℕ) → In t voids → SlotInvalidated l (word image) (word opened_image) t (counts (2 * t))
            → content l (word opened_image) t ≡ broken (highest_whole_in (content l (word image) t))
        by t i (slot-shut z e d) = absurd (omega (arith, full t i, z))
        by t i (slot_opened z e d) = e
