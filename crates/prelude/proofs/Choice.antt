-- A choice by a test whose value is known, and the two values of a test. Assumes nothing.
use mathlib.Core.Path.{◌≡◌, refl, sym, ap, ◌∙◌}
use mathlib.Core.Bool.{Bool, true, false, cond, ◌&&◌, true≢false}
use mathlib.Core.Logic.{◌⊎◌, inl, inr}
use Prim.Native.Nat.{ℕ, zero, suc, ◌≤◌, ◌<◌, min}
use native.Mathlib.Omega.{arith}
use lib.Dec.{ltb}
use borrow.Author.Tests.{lt-ltb, ltb-true}

pub pick_true {ℓ} : {A : Type ℓ} (b : Bool) (x y : A) → b ≡ true → cond b x y ≡ x
pick_true b x y e = ap (λ (t : Bool). cond t x y) e

pub pick_false {ℓ} : {A : Type ℓ} (b : Bool) (x y : A) → b ≡ false → cond b x y ≡ y
pick_false b x y e = ap (λ (t : Bool). cond t x y) e

pub split : (b : Bool) → (b ≡ true) ⊎ (b ≡ false)
split true = inl refl
split false = inr refl

pub true-false : {b : Bool} → b ≡ true → b ≡ false → ⊥
true-false {b} p q = true≢false (sym p ∙ q)

pub both_left : (a b : Bool) → a && b ≡ true → a ≡ true
both_left true b e = refl
both_left false b e = e

pub both_right : (a b : Bool) → a && b ≡ true → b ≡ true
both_right true b e = e
both_right false b e = absurd (true-false e refl)

pub both_of : (a b : Bool) → a && b ≡ true → (a ≡ true) × (b ≡ true)
both_of a b e = (both_left a b e, both_right a b e)

pub both : (a b : Bool) → a ≡ true → b ≡ true → a && b ≡ true
both true b e d = d
both false b e d = e

pub false_left : (a b : Bool) → a ≡ false → a && b ≡ false
false_left true b e = absurd (true-false refl e)
false_left false b e = refl

pub false_right : (a b : Bool) → b ≡ false → a && b ≡ false
false_right true b e = e
false_right false b e = refl

-- a test that is not true is false
pub is_false : (b : Bool) → (b ≡ true → ⊥) → b ≡ false
is_false true h = absurd (h refl)
is_false false h = refl

-- tests that imply each other are equal
pub same_test : (a b : Bool) → (a ≡ true → b ≡ true) → (b ≡ true → a ≡ true) → a ≡ b
same_test true b h g = sym (h refl)
same_test false true h g = absurd (true-false (g refl) refl)
same_test false false h g = refl

-- what is not 0 is above it
pub positive : (n : ℕ) → (n ≡ 0 → ⊥) → 0 < n
positive zero ne = absurd (ne refl)
positive (suc n) ne = omega arith

-- whether a list is too short, where no more than `size` entries are ever asked for and no more are used
pub lesser_short : (count size room : ℕ) → count ≤ size → ltb (min size room) count ≡ ltb room count
lesser_short count size room h =
    same_test _ _ (λ e. lt-ltb room count (omega (arith, ltb-true (min size room) count e)))
    (λ e. lt-ltb (min size room) count (omega (arith, ltb-true room count e)))
