-- What a verdict and a content say of the two lines of a slot, and the length of its value. Assumes nothing.
use mathlib.Core.Path.{◌≡◌, refl, sym, ap, ap₂, ◌∙◌}
use mathlib.Core.Bool.{true, false, cond, true≢false}
use mathlib.Core.Logic.{◌⊎◌, inl, inr}
use mathlib.Core.List.{List}
use Prim.Native.Nat.{ℕ, ◌+◌, ◌/◌, ◌%◌, ◌≤◌, ◌<◌, ◌*◌}
use native.Mathlib.Omega.{arith}
use lib.ListN.{length}
use lib.Dec.{eqb}
use borrow.Author.Tests.{eq-eqb, ne_eqb, eqb-true, eqb-false}
use Rattle.prelude.proofs.Choice.{pick_true, pick_false, split}
use Rattle.layout.specs.Line.{line_a, line_b, whole, version_of, whole_version}
use Rattle.layout.specs.Slot.{paired, highest_whole_of, verdict_of, line_verdict}
use Rattle.layout.specs.Record.{kind_of, length_of, key_of, limit, value_byte, value_front, value_of}
use Rattle.layout.specs.Content.{broken, empty, put_record, remove_record, content_of_record, content_by, content_of, content, highest_whole, highest_whole_in}
use Rattle.layout.specs.Fault.{word_fault, fault_of}
use Rattle.layout.specs.declared.Verdict.TheVariants.{Valid, Empty, Broken}
use Rattle.prelude.proofs.Refusals.{or_else_zero}
use Rattle.layout.proofs.RecordFields.{within}
use Rattle.prelude.proofs.Tabulate.{tabulate-length}

-- ---- the top of a line

pub top_whole : (mark stamp : ℕ) → whole mark stamp ≡ true → whole_version mark stamp ≡ version_of stamp
unfolding whole_version
top_whole mark stamp e = pick_true (whole mark stamp) (version_of stamp) 0 e

pub top_open : (mark stamp : ℕ) → whole mark stamp ≡ false → whole_version mark stamp ≡ 0
unfolding whole_version
top_open mark stamp e = pick_false (whole mark stamp) (version_of stamp) 0 e

-- ---- pairs

-- what paired ≡ true says
pub record Pair (markA stampA markB stampB : ℕ) : Type 0 where
  pub first : whole markA stampA ≡ true
  pub second : whole markB stampB ≡ true
  pub one_version : version_of stampA ≡ version_of stampB

module _ (mA sA mB sB : ℕ) where
  pub unpaired : (whole mA sA ≡ true → whole mB sB ≡ true → version_of sA ≡ version_of sB → ⊥) → paired mA sA mB sB ≡ false
  unfolding paired
  unpaired h = go (split (whole mA sA)) (split (whole mB sB))
    where
      go : (whole mA sA ≡ true) ⊎ (whole mA sA ≡ false) → (whole mB sB ≡ true) ⊎ (whole mB sB ≡ false)
          → cond (whole mA sA) (cond (whole mB sB) (eqb (sA / 2) (sB / 2)) false) false ≡ false
      go (inr p) q = pick_false (whole mA sA) _ _ p
      go (inl p) (inr q) = pick_true (whole mA sA) _ _ p ∙ pick_false (whole mB sB) _ _ q
      go (inl p) (inl q) =
          pick_true (whole mA sA) _ _ p ∙ pick_true (whole mB sB) _ _ q ∙ ne_eqb (sA / 2) (sB / 2) (h p q)

  pub a_pair : paired mA sA mB sB ≡ true → Pair mA sA mB sB
  a_pair e = go (split (whole mA sA)) (split (whole mB sB)) (split (eqb (sA / 2) (sB / 2)))
    where
      none : (whole mA sA ≡ true → whole mB sB ≡ true → version_of sA ≡ version_of sB → ⊥) → ⊥
      none h = true≢false (sym e ∙ unpaired h)

      go : (whole mA sA ≡ true) ⊎ (whole mA sA ≡ false) → (whole mB sB ≡ true) ⊎ (whole mB sB ≡ false)
          → (eqb (sA / 2) (sB / 2) ≡ true) ⊎ (eqb (sA / 2) (sB / 2) ≡ false) → Pair mA sA mB sB
      go (inr p) q r = absurd (none (λ x y z. true≢false (sym x ∙ p)))
      go (inl p) (inr q) r = absurd (none (λ x y z. true≢false (sym y ∙ q)))
      go (inl p) (inl q) (inr r) = absurd (none (λ x y z. eqb-false (sA / 2) (sB / 2) r z))
      go (inl p) (inl q) (inl r) = record { first = p; second = q; one_version = eqb-true (sA / 2) (sB / 2) r }

  pub paired-by : Pair mA sA mB sB → paired mA sA mB sB ≡ true
  unfolding paired
  paired-by both =
      pick_true (whole mA sA) _ _ both.first ∙ pick_true (whole mB sB) _ _ both.second
      ∙ eq-eqb (sA / 2) (sB / 2) both.one_version

-- ---- verdicts

module _ (A B : ℕ → ℕ) where
  pub verdict_valid : paired (A 0) (A 7) (B 0) (B 7) ≡ true → (version_of (A 7) ≡ 0 → ⊥) → line_verdict A B ≡ Valid (version_of (A 7))
  unfolding line_verdict verdict_of
  verdict_valid p h =
      pick_true (paired (A 0) (A 7) (B 0) (B 7)) _ _ p ∙ pick_false (eqb (A 7 / 2) 0) _ _ (ne_eqb (A 7 / 2) 0 h)

  pub verdict_empty : paired (A 0) (A 7) (B 0) (B 7) ≡ true → version_of (A 7) ≡ 0 → line_verdict A B ≡ Empty
  unfolding line_verdict verdict_of
  verdict_empty p h =
      pick_true (paired (A 0) (A 7) (B 0) (B 7)) _ _ p ∙ pick_true (eqb (A 7 / 2) 0) _ _ (eq-eqb (A 7 / 2) 0 h)

  pub verdict_broken : paired (A 0) (A 7) (B 0) (B 7) ≡ false → line_verdict A B ≡ Broken (highest_whole_of A B)
  unfolding line_verdict verdict_of highest_whole_of
  verdict_broken p = pick_false (paired (A 0) (A 7) (B 0) (B 7)) _ _ p

-- ---- the four kinds of a slot

-- a valid slot, of this version
pub record ValidAt (A B : ℕ → ℕ) (v : ℕ) : Type 0 where
  pub pair : paired (A 0) (A 7) (B 0) (B 7) ≡ true
  pub version : version_of (A 7) ≡ v
  pub positive : 0 < v

pub record PutAt (l : ℕ) (A B : ℕ → ℕ) (v k : ℕ) (x : List ℕ) : Type 0 where
  pub valid : ValidAt A B v
  pub kind : kind_of (A (l + 1)) ≡ 2 → ⊥
  pub key : key_of l A ≡ k
  pub value : value_of l A B ≡ x

pub record RemoveAt (l : ℕ) (A B : ℕ → ℕ) (v k : ℕ) : Type 0 where
  pub valid : ValidAt A B v
  pub kind : kind_of (A (l + 1)) ≡ 2
  pub key : key_of l A ≡ k

pub data Reading (l : ℕ) (A B : ℕ → ℕ) : Type 0 where
  reads_broken : paired (A 0) (A 7) (B 0) (B 7) ≡ false → content_of l A B ≡ broken (highest_whole_of A B) → Reading l A B
  reads_empty : paired (A 0) (A 7) (B 0) (B 7) ≡ true → version_of (A 7) ≡ 0 → content_of l A B ≡ empty → Reading l A B
  reads_put : PutAt l A B (version_of (A 7)) (key_of l A) (value_of l A B)
      → content_of l A B ≡ put_record (version_of (A 7)) (key_of l A) (value_of l A B) → Reading l A B
  reads_remove : RemoveAt l A B (version_of (A 7)) (key_of l A) → content_of l A B ≡ remove_record (version_of (A 7)) (key_of l A) → Reading l A B

module _ (l : ℕ) (A B : ℕ → ℕ) where
  pub broken_content : paired (A 0) (A 7) (B 0) (B 7) ≡ false → content_of l A B ≡ broken (highest_whole_of A B)
  unfolding content_of content_by
  broken_content p = ap (content_by l A B) (verdict_broken A B p)

  pub empty_content : paired (A 0) (A 7) (B 0) (B 7) ≡ true → version_of (A 7) ≡ 0 → content_of l A B ≡ empty
  unfolding content_of content_by
  empty_content p h = ap (content_by l A B) (verdict_empty A B p h)

  pub valid_content : paired (A 0) (A 7) (B 0) (B 7) ≡ true → (version_of (A 7) ≡ 0 → ⊥)
      → content_of l A B ≡ content_of_record (kind_of (A (l + 1))) (version_of (A 7)) (key_of l A) (value_of l A B)
  unfolding content_of content_by
  valid_content p h = ap (content_by l A B) (verdict_valid A B p h)

  pub reading : Reading l A B
  unfolding content_of_record
  reading = go (split (paired (A 0) (A 7) (B 0) (B 7))) (split (eqb (A 7 / 2) 0)) (split (eqb (A (l + 1) % 256) 2))
    where
      valid : paired (A 0) (A 7) (B 0) (B 7) ≡ true → eqb (A 7 / 2) 0 ≡ false → ValidAt A B (version_of (A 7))
      valid p q = record { pair = p; version = refl; positive = omega (arith, eqb-false (A 7 / 2) 0 q) }

      go : (paired (A 0) (A 7) (B 0) (B 7) ≡ true) ⊎ (paired (A 0) (A 7) (B 0) (B 7) ≡ false) → (eqb (A 7 / 2) 0 ≡ true) ⊎ (eqb (A 7 / 2) 0 ≡ false)
          → (eqb (A (l + 1) % 256) 2 ≡ true) ⊎ (eqb (A (l + 1) % 256) 2 ≡ false) → Reading l A B
      go (inr p) q r = reads_broken p (broken_content p)
      go (inl p) (inl q) r = reads_empty p (eqb-true (A 7 / 2) 0 q) (empty_content p (eqb-true (A 7 / 2) 0 q))
      go (inl p) (inr q) (inl r) =
          reads_remove (record { valid = valid p q; kind = eqb-true (A (l + 1) % 256) 2 r; key = refl })
          (valid_content p (eqb-false (A 7 / 2) 0 q) ∙ pick_true (eqb (A (l + 1) % 256) 2) _ _ r)
      go (inl p) (inr q) (inr r) =
          reads_put (record { valid = valid p q; kind = eqb-false (A (l + 1) % 256) 2 r; key = refl; value = refl })
          (valid_content p (eqb-false (A 7 / 2) 0 q) ∙ pick_false (eqb (A (l + 1) % 256) 2) _ _ r)

-- ---- tops

pair_top : (A B : ℕ → ℕ) → paired (A 0) (A 7) (B 0) (B 7) ≡ true → highest_whole_of A B ≡ version_of (A 7)
unfolding highest_whole_of
pair_top A B p =
    let both = a_pair (A 0) (A 7) (B 0) (B 7) p in
    omega (arith, top_whole (A 0) (A 7) both.first, top_whole (B 0) (B 7) both.second, both.one_version)

-- the content's top is the highest version on a whole line
pub top_content : (l : ℕ) (A B : ℕ → ℕ) → highest_whole_in (content_of l A B) ≡ highest_whole_of A B
unfolding highest_whole_in
top_content l A B = go (reading l A B)
  where
    go : Reading l A B → highest_whole_in (content_of l A B) ≡ highest_whole_of A B
    go (reads_broken p e) = ap highest_whole_in e
    go (reads_empty p z e) = ap highest_whole_in e ∙ sym (pair_top A B p ∙ z)
    go (reads_put at e) = ap highest_whole_in e ∙ sym (pair_top A B at.valid.pair)
    go (reads_remove at e) = ap highest_whole_in e ∙ sym (pair_top A B at.valid.pair)

pub top_is : (l : ℕ) (m : ℕ → ℕ) (s : ℕ) → highest_whole_in (content l m s) ≡ highest_whole m s
unfolding content highest_whole
top_is l m s = top_content l (line_a m s) (line_b m s)

-- ---- from a content to its slot

put_not_broken : (t v k : ℕ) (x : List ℕ) → broken t ≡ put_record v k x → ⊥
put_not_broken t v k x e = let z : ◌≡◌ {A = ℕ} 0 1 = cc in omega arith

put_not_empty : (v k : ℕ) (x : List ℕ) → empty ≡ put_record v k x → ⊥
put_not_empty v k x e = let z : ◌≡◌ {A = ℕ} 0 1 = cc in omega arith

put_not_remove : (w j v k : ℕ) (x : List ℕ) → remove_record w j ≡ put_record v k x → ⊥
put_not_remove w j v k x e = let z : ◌≡◌ {A = ℕ} 0 1 = cc in omega arith

put_fields : (w j v k : ℕ) (y x : List ℕ) → put_record w j y ≡ put_record v k x → (w ≡ v) × (j ≡ k) × (y ≡ x)
put_fields w j v k y x e = (cc, cc, cc)

of_version : (A B : ℕ → ℕ) (w v : ℕ) → ValidAt A B w → w ≡ v → ValidAt A B v
of_version A B w v h e = record { pair = h.pair; version = h.version ∙ e; positive = omega (arith, h.positive, e) }

pub put_at : (l : ℕ) (A B : ℕ → ℕ) (v k : ℕ) (x : List ℕ) → content_of l A B ≡ put_record v k x → PutAt l A B v k x
put_at l A B v k x e = go (reading l A B)
  where
    go : Reading l A B → PutAt l A B v k x
    go (reads_broken p c) = absurd (put_not_broken _ _ _ _ (sym c ∙ e))
    go (reads_empty p z c) = absurd (put_not_empty _ _ _ (sym c ∙ e))
    go (reads_remove at c) = absurd (put_not_remove _ _ _ _ _ (sym c ∙ e))
    go (reads_put at c) =
        let same = put_fields _ _ _ _ _ _ (sym c ∙ e) in
        record { valid = of_version A B (version_of (A 7)) v at.valid same.0; kind = at.kind; key = same.1; value = same.2 }

-- ---- the length of the value

pub value-length : (l : ℕ) (A B : ℕ → ℕ) → length (value_of l A B) ≡ length_of (A (l + 1))
unfolding value_of value_front
value-length l A B = tabulate-length (value_byte l A B) 0 (length_of (A (l + 1)))

-- without a fault the length is within the limit
pub length_bound : (l : ℕ) (A B : ℕ → ℕ) → fault_of l A B ≡ 0 → length_of (A (l + 1)) ≤ limit l
unfolding fault_of
length_bound l A B e = within l (A (l + 1)) _ refl (or_else_zero (word_fault l (A (l + 1))) _ e).0

-- ---- a slot whose marks and stamps are zero is empty

pub blank_content : (l : ℕ) (m : ℕ → ℕ) (s : ℕ) → line_a m s 0 ≡ 0 → line_a m s 7 ≡ 0 → line_b m s 0 ≡ 0 → line_b m s 7 ≡ 0
    → content l m s ≡ empty
unfolding content
blank_content l m s a b c d =
    empty_content l (line_a m s) (line_b m s)
    (paired-by (line_a m s 0) (line_a m s 7) (line_b m s 0) (line_b m s 7)
    (record { first = clear a b; second = clear c d; one_version = ap (λ (x : ℕ). x / 2) (b ∙ sym d) }))
    (ap (λ (x : ℕ). x / 2) b)
  where
    clear : {mark stamp : ℕ} → mark ≡ 0 → stamp ≡ 0 → whole mark stamp ≡ true
    clear p q = ap₂ whole p q

pub blank_table : (l : ℕ) (m : ℕ → ℕ) → ((i : ℕ) → 16 ≤ i → m i ≡ 0) → (s : ℕ) → 1 ≤ s → content l m s ≡ empty
blank_table l m h s low =
    blank_content l m s (h (8 * (2 * s) + 0) (omega arith)) (h (8 * (2 * s) + 7) (omega arith))
    (h (8 * (2 * s + 1) + 0) (omega arith)) (h (8 * (2 * s + 1) + 7) (omega arith))
