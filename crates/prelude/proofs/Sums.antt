-- Sums over lists without repetition: over two that have the same elements, and over two that differ at one. Assumes nothing.
use mathlib.Core.Path.{◌≡◌, refl, sym, ap, ap₂, ◌∙◌}
use mathlib.Core.Bool.{Bool, true, false, cond}
use mathlib.Core.Logic.{inl, inr, ⊎_elim}
use mathlib.Core.List.{List, [], ◌∷◌}
use Prim.Native.Nat.{ℕ, ◌+◌}
use native.Mathlib.Omega.{arith}
use lib.Dec.{eqb}
use borrow.Author.Tests.{eqb-true, eqb-false}
use Rattle.prelude.specs.Members.{In, Once}
use Rattle.prelude.proofs.defs.Members.{without, sum_over}
use Rattle.prelude.proofs.Lists.{in_without, without_in, once_without, without_gone}

-- functions that agree on the elements have one sum
sum_alike : (f g : ℕ → ℕ) (l : List ℕ) → ((t : ℕ) → In t l → f t ≡ g t) → sum_over f l ≡ sum_over g l
unfolding sum_over
sum_alike f g [] h = refl
sum_alike f g (x ∷ l) h = ap₂ ◌+◌ (h x (inl refl)) (sum_alike f g l (λ t i. h t (inr i)))

-- an element that stands there, taken out; where x stands nowhere f x counts as 0
sum_without : (f : ℕ → ℕ) (x : ℕ) (l : List ℕ) → ((In x l → ⊥) → f x ≡ 0) → sum_over f l ≡ f x + sum_over f (without x l)
unfolding sum_over without
sum_without f x [] h = sym (ap (λ (n : ℕ). n + 0) (h (λ i. i)))
sum_without f x (y ∷ l) h = go (eqb x y) refl (sum_without f x l)
  where
    go : (b : Bool) → eqb x y ≡ b → (((In x l → ⊥) → f x ≡ 0) → sum_over f l ≡ f x + sum_over f (without x l))
        → f y + sum_over f l ≡ f x + sum_over f (cond b l (y ∷ without x l))
    go true e ih = ap (λ (z : ℕ). f z + sum_over f l) (sym (eqb-true x y e))
    go false e ih = omega (arith, ih (λ n. h (⊎_elim (eqb-false x y e) n)))

-- the same elements have the same sum
pub sum_same : (f : ℕ → ℕ) (l m : List ℕ) → Once l → Once m → ((t : ℕ) → In t l → In t m) → ((t : ℕ) → In t m → In t l)
    → sum_over f l ≡ sum_over f m
unfolding sum_over
sum_same f [] [] a b h k = refl
sum_same f [] (y ∷ m) a b h k = absurd (k y (inl refl))
sum_same f (x ∷ l) m a b h k =
    ap (λ (n : ℕ). f x + n)
    (sum_same f l (without x m) a.1 (once_without x m b)
    (λ t i. in_without x t m (h t (inr i)) (λ e. a.0 (rw e at i)))
    (λ t i. left t (k t (without_in x t m i)) i))
    ∙ sym (sum_without f x m (λ n. absurd (n (h x (inl refl)))))
  where
    left : (t : ℕ) → In t (x ∷ l) → In t (without x m) → In t l
    left t (inl e) i = absurd (without_gone x m b (rw e at i))
    left t (inr j) i = j

-- lists and functions that agree but at x, which counts as 0 where it stands nowhere: the sums differ by what is at x
pub sum_but_one : (f g : ℕ → ℕ) (x : ℕ) (l m : List ℕ) → Once l → Once m → ((In x l → ⊥) → f x ≡ 0) → ((In x m → ⊥) → g x ≡ 0)
    → ((t : ℕ) → (t ≡ x → ⊥) → In t l → In t m) → ((t : ℕ) → (t ≡ x → ⊥) → In t m → In t l) → ((t : ℕ) → (t ≡ x → ⊥) → f t ≡ g t)
    → sum_over f l + g x ≡ sum_over g m + f x
sum_but_one f g x l m a b p q h k d =
    omega (
      arith,
      sum_without f x l p,
      sum_without g x m q,
      sum_alike f g (without x l) (λ t i. d t (other t l a i)),
      sum_same g (without x l) (without x m) (once_without x l a) (once_without x m b)
          (λ t i. in_without x t m (h t (other t l a i) (without_in x t l i)) (other t l a i))
          (λ t i. in_without x t l (k t (other t m b i) (without_in x t m i)) (other t m b i)),
    )
  where
    other : (t : ℕ) (s : List ℕ) → Once s → In t (without x s) → t ≡ x → ⊥
    other t s o i e = without_gone x s o (rw e at i)
