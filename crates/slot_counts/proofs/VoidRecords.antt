-- The removes among the void records, by the stores that open their slots. Assumes nothing.
use mathlib.Core.Path.{◌≡◌, refl, sym, ap, ◌∙◌}
use mathlib.Core.Bool.{Bool, true, false, cond, ◌&&◌}
use mathlib.Core.List.{List, [], ◌∷◌}
use Prim.Native.Nat.{ℕ, zero, suc, ◌+◌, ◌*◌, ◌/◌, ◌≤◌, ◌<◌}
use native.Mathlib.Numerals.{add-one}
use native.Mathlib.Omega.{arith}
use lib.Dec.{eqb}
use lib.ListN.{length, get_or, take, length-append}
use lib.Seq.{take-suc, take_all}
use borrow.Author.Tests.{eq-eqb, ne_eqb}
use Rattle.words.specs.Word.{word}
use Rattle.prelude.specs.Range.{count}
use Rattle.prelude.specs.Filter.{filter}
use Rattle.prelude.specs.Members.{In, Slot, slot_numbers}
use Rattle.prelude.proofs.Choice.{pick_true, pick_false, true-false}
use Rattle.prelude.proofs.Count.{count-filter}
use Rattle.prelude.proofs.Lists.{filter_append, slots-in}
use Rattle.prelude.proofs.Tabulate.{tabulate_get}
use Rattle.sorting.proofs.Order.{filter_in, filter_holds, at_in}
use Rattle.layout.specs.Size.{slots_in}
use Rattle.layout.specs.Line.{line_a, line_b}
use Rattle.layout.specs.Record.{kind_of}
use Rattle.layout.specs.Content.{content, content_of, contents_of, size_fields_of}
use Rattle.layout.proofs.Content.{Reading, reads_broken, reads_empty, reads_put, reads_remove, reading}
use Rattle.table.specs.Table.{is_record}
use Rattle.table.specs.Takeable.{is_remove}
use Rattle.table.specs.Complete.{is_void}
use Rattle.table.proofs.Complete.{void_record}
use Rattle.stores.specs.Play.{word_numbers}
use Rattle.stores.specs.Invalidation.{invalidating_store, invalidating_stores}
use Rattle.recovery.specs.Invalidation.{void_slots, invalidations_of}
use Rattle.recovery.specs.declared.Invalidations.{Invalidations}
use Rattle.recovery.proofs.InvalidatingStores.{invalidations_length}
use Rattle.slot_counts.specs.inner.Countable.{void_removes, OpensVoid}

-- a valid slot holds a remove where its kind is 2
kind_remove : (l : ℕ) (m : ℕ → ℕ) (s : ℕ) → is_record (content l m s) ≡ true → is_remove (content l m s) ≡ eqb (kind_of (line_a m s (l + 1))) 2
unfolding content is_record is_remove
kind_remove l m s r = go (reading l (line_a m s) (line_b m s))
  where
    go : Reading l (line_a m s) (line_b m s) → is_remove (content_of l (line_a m s) (line_b m s)) ≡ eqb (kind_of (line_a m s (l + 1))) 2
    go (reads_broken p e) = absurd (true-false r (ap is_record e))
    go (reads_empty p z e) = absurd (true-false r (ap is_record e))
    go (reads_put at e) = ap is_remove e ∙ sym (ne_eqb _ 2 at.kind)
    go (reads_remove at e) = ap is_remove e ∙ sym (eq-eqb _ 2 at.kind)

-- the words that are stored to
opened_words : (m : ℕ → ℕ) (slots : List ℕ) (i : ℕ) → i < length slots → get_or (word_numbers (invalidating_stores m slots)) i 0 ≡ 16 * get_or slots i 0
unfolding word_numbers invalidating_stores invalidating_store
opened_words m [] i h = absurd (omega arith)
opened_words m (s ∷ slots) zero h = refl
opened_words m (s ∷ slots) (suc i) h = opened_words m slots i (omega arith)

-- those that pass both tests
filter_both : (p q : ℕ → Bool) (xs : List ℕ) → filter (λ x. p x && q x) xs ≡ filter q (filter p xs)
unfolding filter
filter_both p q [] = refl
filter_both p q (x ∷ xs) = go (p x) (filter_both p q xs)
  where
    go : (a : Bool) → filter (λ y. p y && q y) xs ≡ filter q (filter p xs)
        → cond (a && q x) (x ∷ filter (λ y. p y && q y) xs) (filter (λ y. p y && q y) xs) ≡ filter q (cond a (x ∷ filter p xs) (filter p xs))
    go true ih = ap (λ (r : List ℕ). cond (q x) (x ∷ r) r) ih
    go false ih = ih

-- the void slots of an image
abbrev slots : (image : List ℕ) → (l : ℕ) → List ℕ
slots image l = void_slots l (word image) (slots_in image)

-- of the first i void records so many are removes
pub record Removing (image : List ℕ) (l i removes : ℕ) : Type 0 where
  pub inside : i ≤ length (slots image l)
  pub few : removes ≤ i
  pub so_far : removes ≡ length (filter (λ s. is_remove (contents_of l image s)) (take i (slots image l)))

module _ (image : List ℕ) (l : ℕ) (o : Invalidations) (g : OpensVoid image l o) where
  pub opened_count : o.count ≡ length (slots image l)
  unfolding invalidations_of
  opened_count = ap (λ (x : Invalidations). x.count) g.opened ∙ invalidations_length (word image) (slots image l)

  pub removing_start : Removing image l 0 0
  unfolding filter
  removing_start = record { inside = omega arith; few = omega arith; so_far = refl }

  -- store i is that of void slot i
  module _ (i : ℕ) (lower : i < o.count) where
    h : i < length (slots image l)
    h = omega (arith, opened_count)

    opened_at : get_or o.at i 0 ≡ 16 * get_or (slots image l) i 0
    unfolding invalidations_of
    opened_at =
        ap (λ (x : Invalidations). get_or x.at i 0) g.opened
        ∙ tabulate_get (λ j. get_or (word_numbers (invalidating_stores (word image) (slots image l))) j 0) 0 8 i (omega (arith, h, g.few))
        ∙ ap (λ (j : ℕ). get_or (word_numbers (invalidating_stores (word image) (slots image l))) j 0) (omega arith)
        ∙ opened_words (word image) (slots image l) i h

    slot_is : get_or o.at i 0 / 16 ≡ get_or (slots image l) i 0
    slot_is = omega (arith, opened_at)

    here : In (get_or (slots image l) i 0) (slots image l)
    here = at_in (slots image l) i h

    void_slot : Slot (slots_in image) (get_or (slots image l) i 0)
    unfolding void_slots
    void_slot = slots-in (slots_in image) _ (filter_in _ _ (slot_numbers (slots_in image)) here)

    is-void : is_void (contents_of l image) (size_fields_of l image) (slots_in image) (get_or (slots image l) i 0) ≡ true
    unfolding void_slots
    is-void = filter_holds _ _ (slot_numbers (slots_in image)) here

    pub opened_inside : 128 * (get_or o.at i 0 / 16 + 1) ≤ length image
    opened_inside = omega (arith, slot_is, void_slot.1, g.image-size)

    -- and it holds a remove where its kind is 2
    removes-by : (kind : ℕ) → kind ≡ kind_of (line_a (word image) (get_or o.at i 0 / 16) (l + 1))
        → is_remove (contents_of l image (get_or (slots image l) i 0)) ≡ eqb kind 2
    removes-by kind k =
        kind_remove l (word image) (get_or (slots image l) i 0) (void_record _ (size_fields_of l image) (slots_in image) _ is-void)
        ∙ ap (λ (x : ℕ). eqb x 2) (ap (λ (s : ℕ). kind_of (line_a (word image) s (l + 1))) (sym slot_is) ∙ sym k)

    -- one void record more
    next_so_far : (b : Bool) → is_remove (contents_of l image (get_or (slots image l) i 0)) ≡ b
        → length (filter (λ s. is_remove (contents_of l image s)) (take (i + 1) (slots image l)))
        ≡ length (filter (λ s. is_remove (contents_of l image s)) (take i (slots image l))) + cond b 1 0
    unfolding filter
    next_so_far b e =
        ap (λ (xs : List ℕ). length (filter (λ s. is_remove (contents_of l image s)) xs))
        (ap (λ (k : ℕ). take k (slots image l)) (add-one i) ∙ take-suc (slots image l) i 0 h)
        ∙ ap length (filter_append (λ s. is_remove (contents_of l image s)) (take i (slots image l)) (get_or (slots image l) i 0 ∷ []))
        ∙ length-append (filter (λ s. is_remove (contents_of l image s)) (take i (slots image l))) _
        ∙ ap (λ (x : ℕ). length (filter (λ s. is_remove (contents_of l image s)) (take i (slots image l))) + x) (one b e)
      where
        one : (b : Bool) → is_remove (contents_of l image (get_or (slots image l) i 0)) ≡ b
            → length (filter (λ s. is_remove (contents_of l image s)) (get_or (slots image l) i 0 ∷ [])) ≡ cond b 1 0
        one true d = ap length (pick_true (is_remove (contents_of l image (get_or (slots image l) i 0))) _ _ d)
        one false d = ap length (pick_false (is_remove (contents_of l image (get_or (slots image l) i 0))) _ _ d)

    module _ (removes kind : ℕ) (so : Removing image l i removes) (k : kind ≡ kind_of (line_a (word image) (get_or o.at i 0 / 16) (l + 1))) where
      pub removing_more : (next : ℕ) → kind ≡ 2 → next ≡ removes + 1 → Removing image l (i + 1) next
      removing_more next e d =
          record {
            inside = omega (arith, h);
            few = omega (arith, so.few);
            so_far = omega (arith, so.so_far, next_so_far true (removes-by kind k ∙ eq-eqb kind 2 e));
          }

      pub removing_same : (next : ℕ) → (kind ≡ 2 → ⊥) → next ≡ removes → Removing image l (i + 1) next
      removing_same next e d =
          record {
            inside = omega (arith, h);
            few = omega (arith, so.few);
            so_far = omega (arith, so.so_far, next_so_far false (removes-by kind k ∙ ne_eqb kind 2 e));
          }

  pub removing_end : (i removes : ℕ) → Removing image l i removes → o.count ≤ i
      → removes ≡ void_removes (contents_of l image) (size_fields_of l image) (slots_in image)
  unfolding void_removes void_slots
  removing_end i removes so h =
      so.so_far
      ∙ ap (λ (xs : List ℕ). length (filter (λ s. is_remove (contents_of l image s)) xs)) (take_all i (slots image l) (omega (arith, opened_count)))
      ∙ sym
      (count-filter (λ s. is_void (contents_of l image) (size_fields_of l image) (slots_in image) s && is_remove (contents_of l image s)) (slots_in image)
      ∙ ap length (filter_both (is_void (contents_of l image) (size_fields_of l image) (slots_in image)) (λ s. is_remove (contents_of l image s))
      (slot_numbers (slots_in image))))
