-- Two values are compared word by word: a byte past the length is zero, so the words agree exactly where the bytes do. Assumes nothing.
use mathlib.Core.Path.{◌≡◌, refl, sym, ap, ap₂, ◌∙◌}
use mathlib.Core.Bool.{true, false, not}
use mathlib.Core.Logic.{by_cases}
use mathlib.Core.List.{List, ◌∷◌}
use Prim.Native.Nat.{ℕ, zero, suc, ◌+◌, ◌-◌, ◌*◌, ◌/◌, ◌%◌, ◌^◌, ◌≤◌, ◌<◌}
use native.Mathlib.Nat.{pow-suc, mul_comm, div-div-eq-div-mul}
use native.Mathlib.Decide.{dec_lt}
use native.Mathlib.Omega.{arith}
use lib.Dec.{eqb}
use lib.ListN.{length, get_or}
use borrow.Author.Tests.{eqb-true, not-false}
use Rattle.prelude.specs.Range.{tabulate}
use Rattle.prelude.proofs.Choice.{is_false}
use Rattle.prelude.proofs.Refusals.{or_else_zero, refuse_if_zero}
use Rattle.prelude.proofs.Tabulate.{tabulate_get}
use Rattle.prelude.proofs.Any.{any_none}
use Rattle.layout.specs.Record.{limit, length_of, value_word, value_byte, value_front, value_of}
use Rattle.layout.specs.Fault.{word_fault, tail_fault, fault_of}
use Rattle.layout.proofs.Content.{value-length, length_bound}
use Rattle.cut_counts.specs.Maps.{same_bytes}
use Rattle.cut_counts.proofs.Maps.{same-bytes, equal_bytes}

-- ---- a word by its bytes

word_by_bytes : (n w v : ℕ) → w < 256 ^ n → v < 256 ^ n → ((j : ℕ) → j < n → w / 256 ^ j % 256 ≡ v / 256 ^ j % 256) → w ≡ v
word_by_bytes zero w v p q h = omega arith
word_by_bytes (suc n) w v p q h =
    omega (arith, h 0 (omega arith), word_by_bytes n (w / 256) (v / 256) (fewer w p) (fewer v q) (λ j i. along w j ∙ h (suc j) (omega arith) ∙ sym (along v j)))
  where
    fewer : (x : ℕ) → x < 256 ^ suc n → x / 256 < 256 ^ n
    fewer x i = let e = pow-suc 256 n in omega (arith, i)

    along : (x j : ℕ) → x / 256 / 256 ^ j % 256 ≡ x / 256 ^ suc j % 256
    along x j = ap (λ (y : ℕ). y % 256) (div-div-eq-div-mul x 256 (256 ^ j) ∙ ap (λ (y : ℕ). x / y) (mul_comm 256 (256 ^ j) ∙ sym (pow-suc 256 j)))

tabulate_same : (f g : ℕ → ℕ) (k n : ℕ) → ((i : ℕ) → i < n → f (k + i) ≡ g (k + i)) → tabulate f k n ≡ tabulate g k n
unfolding tabulate
tabulate_same f g k zero h = refl
tabulate_same f g k (suc n) h =
    ap₂ (λ (x : ℕ) (l : List ℕ). x ∷ l) (ap f (omega arith) ∙ h 0 (omega arith) ∙ ap g (omega arith))
    (tabulate_same f g (suc k) n (λ i p. ap f (omega arith) ∙ h (suc i) (omega arith) ∙ ap g (omega arith)))

-- ---- the values of two records, with lines A and B and with lines C and D

module _ (l : ℕ) (A B C D : ℕ → ℕ) where
  -- the first i words agree
  abbrev pub SameWords : ℕ → Type 0
  SameWords i = (j : ℕ) → j < i → value_word l A B j ≡ value_word l C D j

  front_same : (size i : ℕ) → size ≤ 8 * i → SameWords i → value_front l A B size ≡ value_front l C D size
  unfolding value_front value_byte
  front_same size i p h =
      tabulate_same _ _ 0 size (λ j q. ap (λ (w : ℕ). w / 256 ^ ((0 + j) % 8) % 256) (h ((0 + j) / 8) (omega arith)))

  -- the bytes of the values, if the values are equal and what is past them is zero
  byte_same : (size i j : ℕ) → size ≤ limit l → 8 * i < size → j < 8 → tail_fault l A B size ≡ false → tail_fault l C D size ≡ false
      → value_front l A B size ≡ value_front l C D size → value_byte l A B (8 * i + j) ≡ value_byte l C D (8 * i + j)
  unfolding tail_fault value_front
  byte_same size i j most here low t u e = by_cases (dec_lt (8 * i + j) size) front past
    where
      front : 8 * i + j < size → value_byte l A B (8 * i + j) ≡ value_byte l C D (8 * i + j)
      front p =
          sym (tabulate_get (value_byte l A B) 0 size (8 * i + j) p ∙ ap (value_byte l A B) (omega arith))
          ∙ ap (λ (x : List ℕ). get_or x (8 * i + j) 0) e
          ∙ tabulate_get (value_byte l C D) 0 size (8 * i + j) p ∙ ap (value_byte l C D) (omega arith)

      zero_past : (X Y : ℕ → ℕ) → tail_fault l X Y size ≡ false → size ≤ 8 * i + j → value_byte l X Y (8 * i + j) ≡ 0
      zero_past X Y x p =
          let at : size + (8 * i + j - size) ≡ 8 * i + j = omega arith in
          ap (value_byte l X Y) (sym at)
          ∙ eqb-true _ 0 (not-false _ (any_none (λ k. not (eqb (value_byte l X Y k) 0)) size (limit l - size) x (8 * i + j - size) (omega arith)))

      past : (8 * i + j < size → ⊥) → value_byte l A B (8 * i + j) ≡ value_byte l C D (8 * i + j)
      past p = zero_past A B t (omega arith) ∙ sym (zero_past C D u (omega arith))

  word_same : (size i : ℕ) → size ≤ limit l → 8 * i < size → tail_fault l A B size ≡ false → tail_fault l C D size ≡ false
      → value_word l A B i < 2 ^ 64 → value_word l C D i < 2 ^ 64 → value_front l A B size ≡ value_front l C D size → value_word l A B i ≡ value_word l C D i
  unfolding value_byte
  word_same size i most here t u p q e =
      word_by_bytes 8 (value_word l A B i) (value_word l C D i) p q (λ j h. sym (in_word A B j h) ∙ byte_same size i j most here h t u e ∙ in_word C D j h)
    where
      in_word : (X Y : ℕ → ℕ) (j : ℕ) → j < 8 → value_byte l X Y (8 * i + j) ≡ value_word l X Y i / 256 ^ j % 256
      in_word X Y j h = ap₂ (λ (x y : ℕ). value_word l X Y x / 256 ^ y % 256) word_of byte_of
        where
          word_of : (8 * i + j) / 8 ≡ i
          word_of = omega arith

          byte_of : (8 * i + j) % 8 ≡ j
          byte_of = omega arith

  -- ---- records without a fault; size is the length of the first, and other that of the second

  module _ (f : fault_of l A B ≡ 0) (g : fault_of l C D ≡ 0) (size other : ℕ) (a-size : size ≡ length_of (A (l + 1))) (an-other : other ≡ length_of (C (l + 1)))
    where
      tail_clear : (X Y : ℕ → ℕ) → fault_of l X Y ≡ 0 → tail_fault l X Y (length_of (X (l + 1))) ≡ false
      unfolding fault_of
      tail_clear X Y e = (refuse_if_zero _ 24 0 (or_else_zero (word_fault l (X (l + 1))) _ e).1 (omega arith)).0

      pub lengths_apart : (size ≡ other → ⊥) → true ≡ not (same_bytes (value_of l A B) (value_of l C D))
      lengths_apart ne =
          ap not
          (sym
          (is_false _
          (λ e.
          ne
          (a-size ∙ sym (value-length l A B) ∙ ap length (same-bytes (value_of l A B) (value_of l C D) e) ∙ value-length l C D ∙ sym an-other))))

      pub words_apart : (i a b : ℕ) → size ≡ other → 8 * i < size → a ≡ value_word l A B i → b ≡ value_word l C D i → a < 2 ^ 64 → b < 2 ^ 64 → (a ≡ b → ⊥)
          → true ≡ not (same_bytes (value_of l A B) (value_of l C D))
      unfolding value_of
      words_apart i a b same here p q low high ne =
          ap not (sym (is_false _ (λ e. ne (p ∙ equal (same-bytes (value_of l A B) (value_of l C D) e) ∙ sym q))))
        where
          equal : value_of l A B ≡ value_of l C D → value_word l A B i ≡ value_word l C D i
          equal e =
              word_same size i (omega (arith, length_bound l A B f)) here (ap (tail_fault l A B) a-size ∙ tail_clear A B f)
              (ap (tail_fault l C D) (same ∙ an-other) ∙ tail_clear C D g) (rw p at low) (rw q at high)
              (ap (value_front l A B) a-size ∙ e ∙ ap (value_front l C D) (sym (same ∙ an-other)))

      pub words_alike : (i : ℕ) → size ≡ other → size ≤ 8 * i → SameWords i → false ≡ not (same_bytes (value_of l A B) (value_of l C D))
      unfolding value_of
      words_alike i same all h =
          ap not
          (sym
          (equal_bytes (value_of l A B) (value_of l C D)
          (ap (value_front l A B) (sym a-size) ∙ front_same size i all h ∙ ap (value_front l C D) (same ∙ an-other))))
