-- The size of an image by its word 0, and that what follows it changes nothing. Assumes nothing.
use mathlib.Core.Path.{◌≡◌, refl, sym, ap, ap₂, ◌∙◌}
use mathlib.Core.Bool.{Bool, true, false, cond}
use mathlib.Core.Logic.{by_cases}
use mathlib.Core.List.{List, ◌++◌}
use Prim.Native.Nat.{ℕ, ◌+◌, ◌*◌, ◌≤◌, ◌<◌}
use native.Mathlib.Decide.{dec_lt, ℕ_discrete}
use native.Mathlib.Omega.{arith}
use lib.Dec.{eqb, ltb, leb}
use lib.ListN.{length, take, length-append}
use lib.Seq.{take-append-le, take-length}
use borrow.Author.Tests.{lt-ltb, le-ltb, le-leb, lt-leb, leb-true, ltb-false, eq-eqb, ne_eqb}
use Rattle.words.specs.Word.{word}
use Rattle.words.proofs.Laws.{word-take}
use Rattle.prelude.proofs.Choice.{pick_true, pick_false, true-false}
use Rattle.report_text.specs.Report.{outside, image_size, whole_size}
use Rattle.report_text.specs.Blocks.{readable}

-- ---- by word 0

pub inside_range : (n : ℕ) (b : Bool) → b ≡ outside n → b ≡ false → (2 ≤ n) × (n ≤ 511)
unfolding outside
inside_range n b e d = go (ltb n 2) refl
  where
    go : (x : Bool) → ltb n 2 ≡ x → (2 ≤ n) × (n ≤ 511)
    go true p = absurd (true-false (pick_true (ltb n 2) _ _ p) (sym e ∙ d))
    go false p = (ltb-false n 2 p, ltb-false 511 n (sym (pick_false (ltb n 2) _ _ p) ∙ sym e ∙ d))

module _ (input : List ℕ) where
  pub size_short : length input < 8 → 0 ≡ image_size input
  unfolding image_size
  size_short h = sym (pick_true _ _ _ (lt-ltb (length input) 8 h))

  module _ (h : 8 ≤ length input) (n : ℕ) (w : n ≡ word input 0) (b : Bool) (e : b ≡ outside n) where
    size-by : image_size input ≡ cond (outside n) 0 (128 * (n + 1))
    unfolding image_size
    size-by =
        pick_false _ _ _ (le-ltb (length input) 8 h) ∙ ap (λ (x : ℕ). cond (outside x) 0 (128 * (x + 1))) (sym w)

    pub size_outside : b ≡ true → 0 ≡ image_size input
    size_outside d = sym (size-by ∙ pick_true (outside n) _ _ (sym e ∙ d))

    pub size_inside : b ≡ false → 128 * (n + 1) ≡ image_size input
    size_inside d = sym (size-by ∙ pick_false (outside n) _ _ (sym e ∙ d))

-- ---- an image that may be read

module _ (input : List ℕ) (left : ℕ) where
  pub readable_none : left ≡ 0 → 0 ≡ readable left input
  unfolding readable
  readable_none e = sym (pick_true (eqb left 0) _ _ (eq-eqb left 0 e))

  pub no_size : image_size input ≡ 0 → readable left input ≡ 0
  unfolding readable whole_size
  no_size z = go (eqb left 0) (leb (image_size input) (length input))
    where
      go : (x y : Bool) → cond x 0 (cond y (image_size input) 0) ≡ 0
      go true y = refl
      go false true = z
      go false false = refl

  module _ (some : left ≡ 0 → ⊥) (size : ℕ) (e : size ≡ image_size input) where
    pub readable_part : length input < size → 0 ≡ readable left input
    unfolding readable whole_size
    readable_part h =
        sym (pick_false (eqb left 0) _ _ (ne_eqb left 0 some) ∙ pick_false _ _ _ (lt-leb (image_size input) (length input) (omega arith)))

    pub readable_whole : size ≤ length input → size ≡ readable left input
    unfolding readable whole_size
    readable_whole h =
        e ∙ sym (pick_false (eqb left 0) _ _ (ne_eqb left 0 some) ∙ pick_true _ _ _ (le-leb (image_size input) (length input) (omega arith)))

-- what an image that may be read is
pub record Image (left size : ℕ) (input : List ℕ) : Type 0 where
  pub some_left : 1 ≤ left
  pub slots : ℕ
  pub low : 2 ≤ slots
  pub high : slots ≤ 511
  pub size_is : size ≡ 128 * (slots + 1)
  pub inside : size ≤ length input
  pub whole : size ≡ whole_size input

module _ (input : List ℕ) where
  sized : 0 < image_size input → (n : ℕ) × (2 ≤ n) × (n ≤ 511) × (image_size input ≡ 128 * (n + 1)) × (8 ≤ length input)
  sized p =
      by_cases (dec_lt (length input) 8) (λ h. absurd (omega (arith, size_short input h)))
      (λ h. go (omega arith) (outside (word input 0)) refl)
    where
      go : 8 ≤ length input → (b : Bool) → b ≡ outside (word input 0)
          → (n : ℕ) × (2 ≤ n) × (n ≤ 511) × (image_size input ≡ 128 * (n + 1)) × (8 ≤ length input)
      go h true e = absurd (omega (arith, size_outside input h (word input 0) refl true e refl))
      go h false e =
          let r = inside_range (word input 0) false e refl in
          (word input 0, r.0, r.1, sym (size_inside input h (word input 0) refl false e refl), h)

  pub readable_image : (left size : ℕ) → size ≡ readable left input → 0 < size → Image left size input
  unfolding readable whole_size
  readable_image left size e p = go (eqb left 0) refl (leb (image_size input) (length input)) refl
    where
      go : (x : Bool) → eqb left 0 ≡ x → (y : Bool) → leb (image_size input) (length input) ≡ y → Image left size input
      go true a y b = absurd (omega (arith, e ∙ pick_true (eqb left 0) 0 (whole_size input) a))
      go false a false b =
          absurd (omega (arith, e ∙ pick_false (eqb left 0) 0 (whole_size input) a ∙ pick_false (leb (image_size input) (length input)) (image_size input) 0 b))
      go false a true b =
          let whole = e ∙ pick_false (eqb left 0) 0 (whole_size input) a in
          let is = whole ∙ pick_true (leb (image_size input) (length input)) (image_size input) 0 b in
          let s = sized (omega (arith, is)) in
          record {
            some_left = positive left a;
            slots = s.0;
            low = s.1;
            high = s.2;
            size_is = is ∙ s.3;
            inside = omega (arith, is, leb-true (image_size input) (length input) b);
            whole = whole;
          }
        where
          positive : (k : ℕ) → eqb k 0 ≡ false → 1 ≤ k
          positive k q = by_cases (ℕ_discrete k 0) (λ z. absurd (true-false (eq-eqb k 0 z) q)) (λ z. omega arith)

  -- ---- with more input after it

  pub size_more : (more : List ℕ) → 8 ≤ length input → image_size (input ++ more) ≡ image_size input
  unfolding image_size
  size_more more h =
      pick_false _ _ _ (le-ltb (length (input ++ more)) 8 (omega (arith, length-append input more)))
      ∙ ap (λ (x : ℕ). cond (outside x) 0 (128 * (x + 1))) first ∙ sym (pick_false _ _ _ (le-ltb (length input) 8 h))
    where
      front : take (length input) (input ++ more) ≡ input
      front = take-append-le (length input) input more (omega arith) ∙ take-length input

      first : word (input ++ more) 0 ≡ word input 0
      first = sym (word-take (input ++ more) (length input) 0 (omega arith)) ∙ ap (λ (x : List ℕ). word x 0) front

  pub whole_more : (left size : ℕ) (more : List ℕ) → Image left size input → whole_size (input ++ more) ≡ size
  unfolding whole_size
  whole_more left size more g =
      ap₂ (λ (x y : ℕ). cond (leb x y) x 0) same refl ∙ pick_true _ _ _
      (le-leb size (length (input ++ more)) (omega (arith, g.inside, length-append input more)))
    where
      here : image_size input ≡ size
      here = go (leb (image_size input) (length input)) refl
        where
          go : (y : Bool) → leb (image_size input) (length input) ≡ y → image_size input ≡ size
          go true b = sym (g.whole ∙ pick_true (leb (image_size input) (length input)) (image_size input) 0 b)
          go false b =
              absurd (omega (arith, g.size_is, g.whole ∙ pick_false (leb (image_size input) (length input)) (image_size input) 0 b))

      same : image_size (input ++ more) ≡ size
      same = size_more more (omega (arith, g.size_is, g.low, g.inside)) ∙ here
