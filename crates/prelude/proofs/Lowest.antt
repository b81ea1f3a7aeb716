-- The lowest of 1 to n at which g is not 0. Assumes nothing.
use mathlib.Core.Path.{◌≡◌, refl, sym, ap, ◌∙◌}
use mathlib.Core.Bool.{Bool, true, false}
use Prim.Native.Nat.{ℕ, zero, suc, ◌<◌}
use native.Mathlib.Omega.{arith}
use lib.Dec.{eqb, ltb}
use borrow.Author.Tests.{eq-eqb, ne_eqb, eqb-true, eqb-false, ltb-true, ltb-false}
use Rattle.prelude.specs.Refusal.{refuse_if, or_else}
use Rattle.prelude.specs.Range.{lowest, at_lowest}
use Rattle.prelude.specs.Members.{Slot}
use Rattle.prelude.proofs.Refusals.{refuse_if-true, refuse_if-false, or_else_first}

-- s is the lowest slot at which g is not 0, or 0 where g is 0 at all slots
pub data Lowest (g : ℕ → ℕ) (n s : ℕ) : Type 0 where
  nowhere : s ≡ 0 → ((t : ℕ) → Slot n t → g t ≡ 0) → Lowest g n s
  there : Slot n s → (g s ≡ 0 → ⊥) → ((t : ℕ) → Slot n t → t < s → g t ≡ 0) → Lowest g n s

-- what is 0 at the slots to n and at n + 1
all_zero : (g : ℕ → ℕ) (n : ℕ) → ((t : ℕ) → Slot n t → g t ≡ 0) → g (suc n) ≡ 0 → (t : ℕ) → Slot (suc n) t → g t ≡ 0
all_zero g n h l t i = go (ltb n t) refl
  where
    go : (b : Bool) → ltb n t ≡ b → g t ≡ 0
    go true e = let q : t ≡ suc n = omega (arith, ltb-true n t e) in ap g q ∙ l
    go false e = h t (omega (arith, ltb-false n t e))

pub lowest_is : (g : ℕ → ℕ) (n : ℕ) → Lowest g n (lowest g n)
unfolding lowest or_else refuse_if
lowest_is g zero = nowhere refl (λ t i. absurd (omega arith))
lowest_is g (suc n) = go (lowest g n) (lowest_is g n)
  where
    last : ((t : ℕ) → Slot n t → g t ≡ 0) → (b : Bool) → eqb (g (suc n)) 0 ≡ b → Lowest g (suc n) (refuse_if b 0 (suc n))
    last z true e = nowhere refl (all_zero g n z (eqb-true (g (suc n)) 0 e))
    last z false e = there (omega arith) (eqb-false (g (suc n)) 0 e) (λ t i h. z t (omega arith))

    go : (s : ℕ) → Lowest g n s → Lowest g (suc n) (or_else s (refuse_if (eqb (g (suc n)) 0) 0 (suc n)))
    go zero (nowhere e z) = last z (eqb (g (suc n)) 0) refl
    go zero (there i p b) = absurd (omega arith)
    go (suc s) (nowhere e z) = absurd (omega arith)
    go (suc s) (there i p b) = there (omega arith) p (λ t j h. b t (omega arith) h)

-- g at the lowest slot: s is that slot
module _ (g : ℕ → ℕ) (n s : ℕ) where
  abbrev there_is : ℕ
  there_is = refuse_if (eqb s 0) 0 (g s)

  at_none : s ≡ 0 → there_is ≡ 0
  at_none e = refuse_if-true (eqb s 0) 0 (g s) (eq-eqb s 0 e)

  at_some : Slot n s → there_is ≡ g s
  at_some i = refuse_if-false (eqb s 0) 0 (g s) (ne_eqb s 0 (λ e. omega arith))

-- with one slot more
pub at_lowest_next : (g : ℕ → ℕ) (n : ℕ) → at_lowest g (suc n) ≡ or_else (at_lowest g n) (g (suc n))
unfolding at_lowest lowest or_else refuse_if
at_lowest_next g n = go (lowest g n) (lowest_is g n)
  where
    last : (b : Bool) → eqb (g (suc n)) 0 ≡ b → refuse_if (eqb (refuse_if b 0 (suc n)) 0) 0 (g (refuse_if b 0 (suc n))) ≡ g (suc n)
    last true e = sym (eqb-true (g (suc n)) 0 e)
    last false e = at_some g (suc n) (suc n) (omega arith)

    go : (s : ℕ) → Lowest g n s
        → refuse_if (eqb (or_else s (refuse_if (eqb (g (suc n)) 0) 0 (suc n))) 0) 0 (g (or_else s (refuse_if (eqb (g (suc n)) 0) 0 (suc n)))) ≡
        or_else (refuse_if (eqb s 0) 0 (g s)) (g (suc n))
    go zero h = last (eqb (g (suc n)) 0) refl
    go (suc s) (nowhere e z) = absurd (omega arith)
    go (suc s) (there i p b) =
        at_some g n (suc s) i ∙ sym (or_else_first (g (suc s)) (g (suc n)) p)
        ∙ ap (λ (k : ℕ). or_else k (g (suc n))) (sym (at_some g n (suc s) i))

-- where it is 0, g is 0 at all slots
pub clear_at : (g : ℕ → ℕ) (n : ℕ) → at_lowest g n ≡ 0 → (t : ℕ) → Slot n t → g t ≡ 0
unfolding at_lowest
clear_at g n z = go (lowest g n) (lowest_is g n) z
  where
    go : (s : ℕ) → Lowest g n s → refuse_if (eqb s 0) 0 (g s) ≡ 0 → (t : ℕ) → Slot n t → g t ≡ 0
    go s (nowhere e h) y = h
    go s (there i p b) y = absurd (p (sym (at_some g n s i) ∙ y))

-- and the other way round
pub all_clear : (g : ℕ → ℕ) (n : ℕ) → ((t : ℕ) → Slot n t → g t ≡ 0) → at_lowest g n ≡ 0
unfolding at_lowest
all_clear g n h = go (lowest g n) (lowest_is g n)
  where
    go : (s : ℕ) → Lowest g n s → refuse_if (eqb s 0) 0 (g s) ≡ 0
    go s (nowhere e z) = at_none g n s e
    go s (there i p b) = absurd (p (h s i))
