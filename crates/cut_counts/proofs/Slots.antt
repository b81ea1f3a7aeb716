-- What a search of the recovered index says of a key's value, and where two maps differ at a key. Assumes nothing.
use mathlib.Core.Path.{◌≡◌, refl, sym, ap, ap₂, ◌∙◌, subst}
use mathlib.Core.Bool.{Bool, true, false, not}
use mathlib.Core.Logic.{by_cases}
use mathlib.Core.Option.{Option, some}
use mathlib.Core.List.{List}
use Prim.Native.Nat.{ℕ, ◌+◌, ◌≤◌, ◌<◌}
use native.Mathlib.Decide.{ℕ_discrete, dec_lt}
use native.Mathlib.Omega.{arith}
use lib.Dec.{eqb}
use lib.ListN.{length}
use borrow.Author.Tests.{eq-eqb, ne_eqb}
use Rattle.words.specs.Word.{word}
use Rattle.prelude.specs.Members.{Slot}
use Rattle.prelude.proofs.Refusals.{or_else_zero}
use Rattle.layout.specs.Size.{slots_in}
use Rattle.layout.specs.Line.{line_a, line_b}
use Rattle.layout.specs.Record.{Layout, value_of, key_with}
use Rattle.layout.specs.Header.{lent_fault}
use Rattle.layout.specs.Content.{content, contents_of, size_fields_of}
use Rattle.layout.specs.inner.Inside.{SlotInside}
use Rattle.layout.specs.inner.Key.{high_word}
use Rattle.layout.specs.inner.Sized.{Sized}
use Rattle.layout.proofs.Content.{put_at}
use Rattle.layout.proofs.KeyWords.{key_parts}
use Rattle.layout.proofs.Lents.{lent_sized}
use Rattle.table.specs.Table.{map_of, value_in, live}
use Rattle.table.specs.Complete.{table_of}
use Rattle.table.proofs.Map.{Live, lives, live_is}
use Rattle.index.specs.Walk.{slot_key, search}
use Rattle.index.specs.declared.Found.{Found}
use Rattle.index.specs.declared.Found.TheVariants.{At, Missing, BadChain}
use Rattle.table.proofs.Right.{valid_fault}
use Rattle.recovery.specs.Recover.{slots_fault, recover_fault}
use Rattle.recovery.specs.Represents.{Answers}
use Rattle.recovery.proofs.Answers.{live_slot_key, recovered_search}
use Rattle.recovery.proofs.Clear.{slots_clear}
use Rattle.recovery.proofs.Void.{settled_put}
use Rattle.cut_counts.specs.Maps.{same_bytes, same_value, differ_at, is_same_map}
use Rattle.cut_counts.specs.inner.Indexed.{OwnIndex, Mapped, Keeps, HeldIn}
use Rattle.cut_counts.proofs.Maps.{counts_apart, keys_apart, keys_agree}

module _ (l : ℕ) (image heads next : List ℕ) (own : OwnIndex l image heads next) where
  cleared : (lent_fault l image (length heads) (length next) ≡ 0) × (slots_fault l (word image) (slots_in image) ≡ 0)
  unfolding recover_fault
  cleared = or_else_zero (lent_fault l image (length heads) (length next)) _ own.clear

  pub own_sized : (n : ℕ) → n ≡ slots_in image → Sized image heads next n
  own_sized n e = lent_sized l (lent_fault l image (length heads) (length next)) image heads next refl cleared.0 n e

  pub own_inside : (s : ℕ) → Layout l → Slot (slots_in image) s → SlotInside image l s
  own_inside s lay i = record { layout = lay; room = omega (arith, (own_sized (slots_in image) refl).image-size) }

  -- a live slot holds its value
  live_keeps : (key s : ℕ) → map_of (table_of l image) (slots_in image) key ≡ value_in (table_of l image s) → live (table_of l image) (slots_in image) s ≡ true
      → Slot (slots_in image) s → Keeps l image key s
  unfolding content value_in
  live_keeps key s e a i = go (live_is (table_of l image) (slots_in image) s a)
    where
      go : Live (table_of l image) (slots_in image) s → Keeps l image key s
      go (lives w k v d b) =
          let at = put_at l (line_a (word image) s) (line_b (word image) s) w k v
          (settled_put (contents_of l image) (size_fields_of l image) (slots_in image) s w k v d) in
          record {
            slot = i;
            value = e ∙ ap value_in d ∙ ap some (sym at.value);
            sound = valid_fault l (word image) s w at.valid ((slots_clear l (word image) (slots_in image) cleared.1).records s i);
          }

  module _ (key : ℕ) (found : Found) (e : found ≡ search l image heads next key) where
    answers : Answers (table_of l image) (slots_in image) key found
    answers =
        subst (λ (x : Found). Answers (table_of l image) (slots_in image) key x)
        (sym (e ∙ ap₂ (λ (h t : List ℕ). search l image h t key) own.heads_are own.next_are))
        (recovered_search l image heads next own.clear key)

    pub found_held : (slot prev compared : ℕ) → found ≡ At slot prev compared → HeldIn l image key slot
    found_held slot prev compared q =
        let a = answers.holds slot prev compared q in
        record { not-held = λ z. absurd (omega (arith, a.2)); held = λ ne. live_keeps key slot a.0 a.1 a.2 }

    pub found_missing : (prev compared : ℕ) → found ≡ Missing prev compared → HeldIn l image key 0
    found_missing prev compared q = record { not-held = λ z. answers.absent prev compared q; held = λ ne. absurd (ne refl) }

    pub never_bad_chain : found ≡ BadChain → HeldIn l image key 0
    never_bad_chain q = absurd (answers.no_bad_chain q)

-- ---- the values of a key in two images, which slots s and t hold

module _ (l : ℕ) (a b : List ℕ) (key s t : ℕ) (p : HeldIn l a key s) (q : HeldIn l b key t) where
  abbrev differ : Bool
  differ = differ_at (table_of l a) (slots_in a) (table_of l b) (slots_in b) key

  differ_by : (o r : Option (List ℕ)) → map_of (table_of l a) (slots_in a) key ≡ o → map_of (table_of l b) (slots_in b) key ≡ r → not (same_value o r) ≡ differ
  unfolding differ_at
  differ_by o r x y = ap₂ (λ (u v : Option (List ℕ)). not (same_value u v)) (sym x) (sym y)

  pub not_first : s ≡ 0 → not (eqb t 0) ≡ differ
  unfolding same_value
  not_first x =
      by_cases (ℕ_discrete t 0) (λ y. ap not (eq-eqb t 0 y) ∙ differ_by _ _ (p.not-held x) (q.not-held y))
      (λ y. ap not (ne_eqb t 0 y) ∙ differ_by _ _ (p.not-held x) (q.held y).value)

  pub first_alone : (s ≡ 0 → ⊥) → t ≡ 0 → true ≡ differ
  unfolding same_value
  first_alone x y = differ_by _ _ (p.held x).value (q.not-held y)

  pub held_both : (s ≡ 0 → ⊥) → (t ≡ 0 → ⊥) → (r : Bool)
      → r ≡ not (same_bytes (value_of l (line_a (word a) s) (line_b (word a) s)) (value_of l (line_a (word b) t) (line_b (word b) t))) → r ≡ differ
  unfolding same_value
  held_both x y r e = e ∙ differ_by _ _ (p.held x).value (q.held y).value

-- ---- the keys of the first image's slots, one by one

-- the maps of two images differ at this key
abbrev apart_at : (l : ℕ) → (a b : List ℕ) → (key : ℕ) → Bool
apart_at l a b key = differ_at (table_of l a) (slots_in a) (table_of l b) (slots_in b) key

-- they do not at the keys of the slots below s
pub record Passed (l : ℕ) (a b : List ℕ) (s : ℕ) : Type 0 where
  pub some_slot : 1 ≤ s
  pub last_slot : s ≤ slots_in a + 1
  pub agree : (t : ℕ) → 1 ≤ t → t < s → apart_at l a b (slot_key l a t) ≡ false

module _ (l : ℕ) (a b : List ℕ) (s low high : ℕ) (lay : Layout l) (p : low ≡ line_a (word a) s 1) (q : high ≡ high_word l (line_a (word a) s))
    (r : Bool) (e : r ≡ apart_at l a b (key_with low high)) where
  at_key : r ≡ apart_at l a b (slot_key l a s)
  at_key = e ∙ ap (apart_at l a b) (ap₂ key_with p q ∙ sym (key_parts l (line_a (word a) s) lay))

  pub slot_apart : r ≡ true → false ≡ is_same_map (table_of l a) (slots_in a) (table_of l b) (slots_in b)
  slot_apart t = keys_apart (table_of l a) (slots_in a) (table_of l b) (slots_in b) (slot_key l a s) r at_key t

  pub slot_passed : r ≡ false → s ≤ slots_in a → Passed l a b s → Passed l a b (s + 1)
  slot_passed z h g =
      record {
        some_slot = omega arith;
        last_slot = omega arith;
        agree = λ t x y. by_cases (dec_lt t s) (g.agree t x) (λ n. let same : t ≡ s = omega arith in rw same (sym at_key ∙ z));
      }

module _ (l : ℕ) (a ha na b hb nb : List ℕ) (x y : ℕ) (p : Mapped l a ha na x) (q : Mapped l b hb nb y) where
  pub live_apart : (x ≡ y → ⊥) → false ≡ is_same_map (table_of l a) (slots_in a) (table_of l b) (slots_in b)
  live_apart ne = counts_apart (table_of l a) (slots_in a) (table_of l b) (slots_in b) x y p.live_is q.live_is ne

  pub all_passed : (s : ℕ) → x ≡ y → slots_in a < s → Passed l a b s → true ≡ is_same_map (table_of l a) (slots_in a) (table_of l b) (slots_in b)
  all_passed s e h g =
      keys_agree (table_of l a) (slots_in a) (table_of l b) (slots_in b) (slot_key l a) (live_slot_key l a (slots_in a)) x y p.live_is q.live_is e
      (λ t i. g.agree t i.0 (omega arith))
