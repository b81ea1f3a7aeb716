-- A key is what its words make. Assumes nothing.
use mathlib.Core.Path.{◌≡◌, refl, sym, ap, ap₂, ◌∙◌}
use mathlib.Core.Bool.{Bool, true, false}
use Prim.Native.Nat.{ℕ, zero, suc, ◌+◌, ◌-◌, ◌*◌, ◌/◌, ◌%◌, ◌^◌, ◌<◌}
use native.Mathlib.Nat.{pow-succ', div-one, div-lt_iff_lt-mul, div-div-eq-div-mul, mul_comm}
use native.Mathlib.Omega.{arith}
use lib.Dec.{eqb}
use borrow.Author.Tests.{eq-eqb, ne_eqb, eqb-true, eqb-false}
use Rattle.layout.specs.Record.{Layout, key_from, key_of, key_with, key_word}
use Rattle.layout.specs.inner.Key.{high_word}

word_zero : (x : ℕ) → key_word x 0 ≡ x % 2 ^ 64
word_zero x = ap (λ (y : ℕ). y % 2 ^ 64) (div-one x)

word_next : (x j : ℕ) → key_word x (suc j) ≡ key_word (x / 2 ^ 64) j
word_next x j =
    ap (λ (y : ℕ). x / y % 2 ^ 64) (pow-succ' (2 ^ 64) j)
    ∙ ap (λ (y : ℕ). y % 2 ^ 64) (sym (div-div-eq-div-mul x (2 ^ 64) ((2 ^ 64) ^ j)))

from_words : (n : ℕ) (A : ℕ → ℕ) (i x : ℕ) → ((j : ℕ) → j < n → A (i + j) ≡ key_word x j) → x < (2 ^ 64) ^ n → key_from A i n ≡ x
unfolding key_from
from_words zero A i x h b = omega arith
from_words (suc n) A i x h b =
    ap₂ (λ (y z : ℕ). y + 2 ^ 64 * z) (ap A (omega arith) ∙ h 0 (omega arith) ∙ word_zero x)
    (from_words n A (suc i) (x / 2 ^ 64) (λ j l. ap A (omega arith) ∙ h (suc j) (omega arith) ∙ word_next x j)
    ((div-lt_iff_lt-mul {k = 2 ^ 64} {x = x} {y = (2 ^ 64) ^ n} (omega arith)).1 small))
    ∙ again
  where
    small : x < (2 ^ 64) ^ n * 2 ^ 64
    small = rw (pow-succ' (2 ^ 64) n, mul_comm (2 ^ 64) ((2 ^ 64) ^ n)) at b

    again : x % 2 ^ 64 + 2 ^ 64 * (x / 2 ^ 64) ≡ x
    again = omega arith

pub key_again : (l : ℕ) (A : ℕ → ℕ) (key : ℕ) → ((j : ℕ) → j < l → A (1 + j) ≡ key_word key j) → key < (2 ^ 64) ^ l → key_of l A ≡ key
unfolding key_of
key_again l A key h b = from_words l A 1 key h b

-- ---- the low and the high word

-- layout 1 has no high word
pub no_high : (l : ℕ) (A : ℕ → ℕ) → l ≡ 1 → 0 ≡ high_word l A
unfolding high_word key_from
no_high l A e = sym (ap (λ (k : ℕ). key_from A 2 (k - 1)) e)

pub high_at : (l : ℕ) (A : ℕ → ℕ) → Layout l → (l ≡ 1 → ⊥) → A 2 ≡ high_word l A
unfolding high_word key_from
high_at l A lay ne =
    let e : l ≡ 2 = omega (arith, lay.low, lay.high, ne) in
    let z : A 2 ≡ A 2 + 2 ^ 64 * 0 = omega arith in
    z ∙ sym (ap (λ (k : ℕ). key_from A 2 (k - 1)) e)

-- the key of line A is made of them
pub key_parts : (l : ℕ) (A : ℕ → ℕ) → Layout l → key_of l A ≡ key_with (A 1) (high_word l A)
unfolding key_of high_word key_from
key_parts zero A lay = absurd (omega (arith, lay.low))
key_parts (suc l) A lay = let e : l ≡ suc l - 1 = omega arith in ap (λ (k : ℕ). A 1 + 2 ^ 64 * key_from A 2 k) e

-- two keys are equal when both words are
pub same_words : (a b x y : ℕ) → a < 2 ^ 64 → x < 2 ^ 64 → key_with a b ≡ key_with x y → (a ≡ x) × (b ≡ y)
same_words a b x y p q e = (omega arith, omega arith)

module _ (l : ℕ) (A : ℕ → ℕ) (lay : Layout l) (fits : A 1 < 2 ^ 64) (low high : ℕ) (small : low < 2 ^ 64) where
  pub other_low : (x : ℕ) → x ≡ A 1 → (x ≡ low → ⊥) → false ≡ eqb (key_of l A) (key_with low high)
  other_low x e ne =
      sym (ne_eqb _ _ (λ z. ne (e ∙ (same_words (A 1) (high_word l A) low high fits small (sym (key_parts l A lay) ∙ z)).0)))

  pub by_high : (x y : ℕ) → x ≡ A 1 → x ≡ low → y ≡ high_word l A → eqb y high ≡ eqb (key_of l A) (key_with low high)
  by_high x y e p f = go (eqb y high) refl
    where
      go : (b : Bool) → eqb y high ≡ b → b ≡ eqb (key_of l A) (key_with low high)
      go true t =
          sym (eq-eqb _ _ (key_parts l A lay ∙ ap₂ key_with (sym e ∙ p) (sym f ∙ eqb-true y high t)))
      go false t =
          sym (ne_eqb _ _ (λ z. eqb-false y high t (f ∙ (same_words (A 1) (high_word l A) low high fits small (sym (key_parts l A lay) ∙ z)).1)))
