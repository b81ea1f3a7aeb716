-- The greatest of g 1 to g n and the first number at which it is. Assumes nothing.
use mathlib.Core.Path.{◌≡◌, refl, ap, ap₂}
use mathlib.Core.Bool.{Bool, true, false, cond}
use Prim.Native.Nat.{ℕ, zero, suc, ◌≤◌, ◌<◌, max}
use native.Mathlib.Omega.{arith}
use lib.Dec.{ltb}
use borrow.Author.Tests.{ltb-true, ltb-false}
use Rattle.prelude.specs.Range.{greatest, topmost}
use Rattle.prelude.specs.Members.{Slot}

pub greatest_above : (g : ℕ → ℕ) (n t : ℕ) → Slot n t → g t ≤ greatest g n
unfolding greatest
greatest_above g zero t i = absurd (omega arith)
greatest_above g (suc n) t i = go (ltb n t) refl (greatest_above g n t)
  where
    go : (b : Bool) → ltb n t ≡ b → (Slot n t → g t ≤ greatest g n) → g t ≤ max (greatest g n) (g (suc n))
    go true e ih = let h = ltb-true n t e in let q : t ≡ suc n = omega arith in omega (arith, ap g q)
    go false e ih = let h = ltb-false n t e in omega (arith, ih (omega arith))

pub greatest_least : (g : ℕ → ℕ) (n m : ℕ) → ((t : ℕ) → Slot n t → g t ≤ m) → greatest g n ≤ m
unfolding greatest
greatest_least g zero m h = omega arith
greatest_least g (suc n) m h = omega (arith, h (suc n) (omega arith), greatest_least g n m (λ t i. h t (omega arith)))

-- functions that agree at the slots have one greatest value
pub greatest_same : (g h : ℕ → ℕ) (n : ℕ) → ((t : ℕ) → Slot n t → g t ≡ h t) → greatest g n ≡ greatest h n
greatest_same g h n e =
    omega (
      arith,
      greatest_least g n (greatest h n) (λ t i. omega (arith, e t i, greatest_above h n t i)),
      greatest_least h n (greatest g n) (λ t i. omega (arith, e t i, greatest_above g n t i)),
    )

-- s is the first slot at which g is greatest, or 0 where g is 0 at all slots
pub data First (g : ℕ → ℕ) (n s : ℕ) : Type 0 where
  nowhere : s ≡ 0 → ((t : ℕ) → Slot n t → g t ≡ 0) → First g n s
  there : Slot n s → 0 < g s → ((t : ℕ) → Slot n t → g t ≤ g s) → ((t : ℕ) → Slot n t → t < s → g t < g s) → First g n s

module _ (g : ℕ → ℕ) (n : ℕ) where
  more : (t : ℕ) → Slot (suc n) t → (Slot n t → g t ≤ greatest g n) → greatest g n < g (suc n) → g t ≤ g (suc n)
  more t i h l = go (ltb n t) refl
    where
      go : (b : Bool) → ltb n t ≡ b → g t ≤ g (suc n)
      go true e = let q : t ≡ suc n = omega (arith, ltb-true n t e) in omega (arith, ap g q)
      go false e = omega (arith, h (omega (arith, ltb-false n t e)))

  -- what holds at the slots to n and at n + 1
  each : (P : ℕ → Type 0) → ((t : ℕ) → Slot n t → P t) → P (suc n) → (t : ℕ) → Slot (suc n) t → P t
  each P h l t i = go (ltb n t) refl
    where
      go : (b : Bool) → ltb n t ≡ b → P t
      go true e = let q : suc n ≡ t = omega (arith, ltb-true n t e) in rw q at l
      go false e = h t (omega (arith, ltb-false n t e))

  passed : (s : ℕ) → First g n s → g (suc n) ≤ greatest g n → First g (suc n) s
  passed s (nowhere e z) l = nowhere e (each (λ t. g t ≡ 0) z (omega (arith, greatest_least g n 0 (λ t i. omega (arith, z t i)))))
  passed s (there i p h b) l =
      there (omega arith) p (each (λ t. g t ≤ g s) h (omega (arith, greatest_least g n (g s) h))) (λ t j k. b t (omega arith) k)

pub first_is : (g : ℕ → ℕ) (n : ℕ) → First g n (topmost g n)
unfolding topmost
first_is g zero = nowhere refl (λ t i. absurd (omega arith))
first_is g (suc n) = go (ltb (greatest g n) (g (suc n))) refl (first_is g n)
  where
    go : (b : Bool) → ltb (greatest g n) (g (suc n)) ≡ b → First g n (topmost g n) → First g (suc n) (cond b (suc n) (topmost g n))
    go true e ih =
        let l = ltb-true (greatest g n) (g (suc n)) e in
        there (omega arith) (omega arith) (λ t i. more g n t i (greatest_above g n t) l) (λ t i h. omega (arith, greatest_above g n t (omega arith)))
    go false e ih = passed g n (topmost g n) ih (ltb-false (greatest g n) (g (suc n)) e)

pub first_unique : (g : ℕ → ℕ) (n s t : ℕ) → First g n s → First g n t → s ≡ t
first_unique g n s t (nowhere e z) (nowhere d y) = omega arith
first_unique g n s t (nowhere e z) (there i p h b) = absurd (omega (arith, z t i))
first_unique g n s t (there i p h b) (nowhere e z) = absurd (omega (arith, z s i))
first_unique g n s t (there i p h b) (there j q k c) = go (ltb s t) refl (ltb t s) refl
  where
    go : (x : Bool) → ltb s t ≡ x → (y : Bool) → ltb t s ≡ y → s ≡ t
    go true d y e = absurd (omega (arith, c s i (ltb-true s t d), h t j))
    go false d true e = absurd (omega (arith, b t j (ltb-true t s e), k s i))
    go false d false e = omega (arith, ltb-false s t d, ltb-false t s e)

pub first_eq : (g : ℕ → ℕ) (n s : ℕ) → First g n s → topmost g n ≡ s
first_eq g n s h = first_unique g n (topmost g n) s (first_is g n) h

-- the first such number is the same where g is the same at all slots
pub topmost_same : (g h : ℕ → ℕ) (n : ℕ) → ((t : ℕ) → Slot n t → g t ≡ h t) → topmost g n ≡ topmost h n
unfolding topmost
topmost_same g h zero e = refl
topmost_same g h (suc n) e =
    ap₂ (λ (b : Bool) (x : ℕ). cond b (suc n) x)
    (ap₂ ltb (greatest_same g h n (λ t i. e t (omega arith))) (e (suc n) (omega arith))) (topmost_same g h n (λ t i. e t (omega arith)))
