-- Refusals in order, `refuse_if` and `or_else`, and a test for difference. Assumes nothing.
use mathlib.Core.Path.{◌≡◌, refl, sym, ap, ◌∙◌}
use mathlib.Core.Bool.{Bool, true, false, not}
use Prim.Native.Nat.{ℕ, zero, suc, ◌<◌}
use native.Mathlib.Omega.{arith}
use lib.Dec.{eqb}
use borrow.Author.Tests.{eq-eqb, ne_eqb}
use Rattle.prelude.specs.Refusal.{refuse_if, or_else, unless_refused}

pub refuse_if-true : (t : Bool) (k later : ℕ) → t ≡ true → refuse_if t k later ≡ k
unfolding refuse_if
refuse_if-true t k later e = ap (λ (b : Bool). refuse_if b k later) e

pub refuse_if-false : (t : Bool) (k later : ℕ) → t ≡ false → refuse_if t k later ≡ later
unfolding refuse_if
refuse_if-false t k later e = ap (λ (b : Bool). refuse_if b k later) e

-- a row of refusals comes to 0: its first test fails, and so do the rest
pub refuse_if_zero : (t : Bool) (k later : ℕ) → refuse_if t k later ≡ 0 → 0 < k → (t ≡ false) × (later ≡ 0)
unfolding refuse_if
refuse_if_zero true k later e p = absurd (let z : ⊥ = omega arith in z)
refuse_if_zero false k later e p = (refl, e)

pub or_else_first : (a b : ℕ) → (a ≡ 0 → ⊥) → or_else a b ≡ a
unfolding or_else
or_else_first zero b ne = absurd (ne refl)
or_else_first (suc a) b ne = refl

pub or_else_later : (a b : ℕ) → a ≡ 0 → or_else a b ≡ b
unfolding or_else
or_else_later a b e = ap (λ (x : ℕ). or_else x b) e

pub or_else_zero : (a b : ℕ) → or_else a b ≡ 0 → (a ≡ 0) × (b ≡ 0)
unfolding or_else
or_else_zero zero b e = (refl, e)
or_else_zero (suc a) b e = absurd (let z : ⊥ = omega arith in z)

pub or_else_none : (a : ℕ) → or_else a 0 ≡ a
unfolding or_else
or_else_none zero = refl
or_else_none (suc a) = refl

pub or_else_row : (a b c : ℕ) → or_else (or_else a b) c ≡ or_else a (or_else b c)
unfolding or_else
or_else_row zero b c = refl
or_else_row (suc a) b c = refl

-- what a call leaves, refused or not
module _ {A : Type 0} (new old : A) where
  pub taken_leaves : (k : ℕ) → k ≡ 0 → unless_refused k new old ≡ new
  unfolding unless_refused
  taken_leaves k e = ap (λ (x : ℕ). unless_refused x new old) e

  pub refused_keeps : (k : ℕ) → (k ≡ 0 → ⊥) → unless_refused k new old ≡ old
  unfolding unless_refused
  refused_keeps zero ne = absurd (ne refl)
  refused_keeps (suc k) ne = refl

-- a test for difference, by values that are known to be the two sides
pub apart : (v w a b : ℕ) → v ≡ a → w ≡ b → (v ≡ w → ⊥) → not (eqb a b) ≡ true
apart v w a b p q ne = ap not (ne_eqb a b (λ e. ne (p ∙ e ∙ sym q)))

pub alike : (v w a b : ℕ) → v ≡ a → w ≡ b → v ≡ w → not (eqb a b) ≡ false
alike v w a b p q e = ap not (eq-eqb a b (sym p ∙ e ∙ q))

-- what holds of the new and of the old holds of what a call leaves
module _ {A : Type 0} (P : A → Type 0) where
  pub by_refusal : (k : ℕ) (new old : A) → P new → P old → P (unless_refused k new old)
  unfolding unless_refused
  by_refusal zero new old p q = p
  by_refusal (suc k) new old p q = q
