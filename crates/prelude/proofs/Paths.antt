-- Singly linked lists: frame, uniqueness, and the three changes of one link. Assumes nothing.
use mathlib.Core.Path.{◌≡◌, refl, sym, ap, ◌∙◌, subst}
use mathlib.Core.Logic.{◌⊎◌, inl, inr}
use mathlib.Core.List.{List, [], ◌∷◌, ◌++◌}
use Prim.Native.Nat.{ℕ, ◌<◌}
use native.Mathlib.Omega.{arith}
use lib.ListN.{length}
use Rattle.prelude.specs.Members.{In}
use Rattle.prelude.specs.Linked.{Run, end_of}
use Rattle.prelude.proofs.Lists.{in_left, in_right}

abbrev pub Pos : List ℕ → Type 0
Pos xs = (y : ℕ) → In y xs → 0 < y

-- ---- lists

-- with s in the middle, and without it
pub in_mid : (x s : ℕ) (xs ys : List ℕ) → In x (xs ++ s ∷ ys) → (x ≡ s) ⊎ In x (xs ++ ys)
in_mid x s [] ys m = m
in_mid x s (y ∷ xs) ys (inl e) = inr (inl e)
in_mid x s (y ∷ xs) ys (inr m) = go (in_mid x s xs ys m)
  where
    go : (x ≡ s) ⊎ In x (xs ++ ys) → (x ≡ s) ⊎ In x (y ∷ xs ++ ys)
    go (inl e) = inl e
    go (inr k) = inr (inr k)

pub mid_in : (x s : ℕ) (xs ys : List ℕ) → (x ≡ s) ⊎ In x (xs ++ ys) → In x (xs ++ s ∷ ys)
mid_in x s [] ys m = m
mid_in x s (y ∷ xs) ys (inl e) = inr (mid_in x s xs ys (inl e))
mid_in x s (y ∷ xs) ys (inr (inl e)) = inl e
mid_in x s (y ∷ xs) ys (inr (inr m)) = inr (mid_in x s xs ys (inr m))

pub end_in : (x : ℕ) (xs : List ℕ) → In (end_of x xs) (x ∷ xs)
end_in x [] = inl refl
end_in x (y ∷ xs) = inr (end_in y xs)

pub end_snoc : (x : ℕ) (xs : List ℕ) (s : ℕ) → end_of x (xs ++ s ∷ []) ≡ s
end_snoc x [] s = refl
end_snoc x (y ∷ xs) s = end_snoc y xs s

-- ---- linked lists

-- frame: what agrees on the list's elements has the list
pub run_alike : (f g : ℕ → ℕ) (xs : List ℕ) (a b v : ℕ) → a ≡ b → ((y : ℕ) → In y xs → f y ≡ g y) → Run f a xs v → Run g b xs v
run_alike f g [] a b v e h r = sym e ∙ r
run_alike f g (x ∷ xs) a b v e h r =
    (sym e ∙ r.0, run_alike f g xs (f x) (g x) v (h x (inl refl)) (λ y m. h y (inr m)) r.1)

-- two lists from one element are equal
pub run_unique : (f : ℕ → ℕ) (xs ys : List ℕ) (a b : ℕ) → a ≡ b → Pos xs → Pos ys → Run f a xs 0 → Run f b ys 0 → xs ≡ ys
run_unique f [] [] a b e p q r s = refl
run_unique f [] (y ∷ ys) a b e p q r s = absurd (omega (arith, q y (inl refl)))
run_unique f (x ∷ xs) [] a b e p q r s = absurd (omega (arith, p x (inl refl)))
run_unique f (x ∷ xs) (y ∷ ys) a b e p q r s =
    let d : x ≡ y = sym r.0 ∙ e ∙ s.0 in
    let t : xs ≡ ys = run_unique f xs ys (f x) (f y) (ap f d) (λ z m. p z (inr m)) (λ z m. q z (inr m)) r.1 s.1 in
    cc

-- what comes after an element is a shorter list
suffix : (f : ℕ → ℕ) (x : ℕ) (xs : List ℕ) (a v : ℕ) → In x xs → Run f a xs v
    → (zs : List ℕ) × (length zs < length xs) × Run f (f x) zs v × ((y : ℕ) → In y zs → In y xs)
suffix f x [] a v x3 r = elim x3 [ ]
suffix f x (y ∷ ys) a v (inl e) r = (ys, omega arith, rw e r.1, λ z m. inr m)
suffix f x (y ∷ ys) a v (inr m) r =
    let t = suffix f x ys (f y) v m r.1 in
    (t.0, omega (arith, t.1), t.2, λ z k. inr (t.3 z k))

-- so a list that ends has no element twice: an element is not in what follows it
pub self : (f : ℕ → ℕ) (x : ℕ) (xs : List ℕ) → Pos xs → Run f (f x) xs 0 → In x xs → ⊥
self f x xs p r m =
    let t = suffix f x xs (f x) 0 m r in
    let e : t.0 ≡ xs = run_unique f t.0 xs (f x) (f x) refl (λ y k. p y (t.3 y k)) p t.2 r in
    omega (arith, t.1, ap length e)

-- parts of a list
pub run_after : (f : ℕ → ℕ) (x : ℕ) (xs ys : List ℕ) (v : ℕ) → Run f (f x) (xs ++ ys) v → Run f (f (end_of x xs)) ys v
run_after f x [] ys v r = r
run_after f x (y ∷ xs) ys v r = run_after f y xs ys v r.1

pub join : (f : ℕ → ℕ) (a : ℕ) (xs : List ℕ) (b : ℕ) (ys : List ℕ) (v : ℕ) → Run f a xs b → Run f b ys v → Run f a (xs ++ ys) v
join f a [] b ys v r s = rw r s
join f a (x ∷ xs) b ys v r s = (r.0, join f (f x) xs b ys v r.1 s)

-- the last link of the first part led to w
pub redirect : (f g : ℕ → ℕ) (x : ℕ) (xs ys : List ℕ) (w : ℕ) → Pos (xs ++ ys) → Run f (f x) (xs ++ ys) 0
    → ((y : ℕ) → (y ≡ end_of x xs → ⊥) → g y ≡ f y) → g (end_of x xs) ≡ w → Run g (g x) xs w
redirect f g x [] ys w p r k e = e
redirect f g x (y ∷ xs) ys w p r k e = (
  k x (λ d. self f x (y ∷ xs ++ ys) p r (in_left x (y ∷ xs) ys (subst (λ (w : ℕ). In w (y ∷ xs)) (sym d) (end_in y xs)))) ∙ r.0,
  redirect f g y xs ys w (λ z m. p z (inr m)) r.1 k e,
)

-- One link changes: f is what follows before, g after, and they differ only at the last element of xs.
module _ (f g : ℕ → ℕ) (x : ℕ) (xs : List ℕ) (k : (y : ℕ) → (y ≡ end_of x xs → ⊥) → g y ≡ f y) where
  tail : (ys : List ℕ) (a b : ℕ) → Pos ys → Run f (f (end_of x xs)) ys 0 → (zs : List ℕ) → ((y : ℕ) → In y zs → In y ys) → a ≡ b
      → Run f a zs 0 → Run g b zs 0
  tail ys a b p r zs sub e s =
      run_alike f g zs a b 0 e (λ y m. sym (k y (λ d. self f (end_of x xs) ys p r (rw (← d) (sub y m))))) s

  pub run_unlink : (old : ℕ) (ys : List ℕ) → Pos (xs ++ old ∷ ys) → Run f (f x) (xs ++ old ∷ ys) 0 → g (end_of x xs) ≡ f old
      → Run g (g x) (xs ++ ys) 0
  run_unlink old ys p r e =
      let s = run_after f x xs (old ∷ ys) 0 r in
      let q : Pos (old ∷ ys) = λ y m. p y (in_right y xs (old ∷ ys) m) in
      join g (g x) xs (f old) ys 0 (redirect f g x xs (old ∷ ys) (f old) p r k e)
      (tail (old ∷ ys) (f old) (f old) q s ys (λ y m. inr m) refl s.1)

  pub run_replace : (old new : ℕ) (ys : List ℕ) → Pos (xs ++ old ∷ ys) → Run f (f x) (xs ++ old ∷ ys) 0
      → (new ≡ end_of x xs → ⊥) → f new ≡ f old → g (end_of x xs) ≡ new → Run g (g x) (xs ++ new ∷ ys) 0
  run_replace old new ys p r n en e =
      let s = run_after f x xs (old ∷ ys) 0 r in
      let q : Pos (old ∷ ys) = λ y m. p y (in_right y xs (old ∷ ys) m) in
      join g (g x) xs new (new ∷ ys) 0 (redirect f g x xs (old ∷ ys) new p r k e)
      (refl, tail (old ∷ ys) (f old) (g new) q s ys (λ y m. inr m) (sym (k new n ∙ en)) s.1)

  pub run_insert : (new : ℕ) (ys : List ℕ) → Pos (xs ++ ys) → Run f (f x) (xs ++ ys) 0
      → (new ≡ end_of x xs → ⊥) → f new ≡ f (end_of x xs) → g (end_of x xs) ≡ new → Run g (g x) (xs ++ new ∷ ys) 0
  run_insert new ys p r n en e =
      let s = run_after f x xs ys 0 r in
      let q : Pos ys = λ y m. p y (in_right y xs ys m) in
      join g (g x) xs new (new ∷ ys) 0 (redirect f g x xs ys new p r k e)
      (refl, tail ys (f (end_of x xs)) (g new) q s ys (λ y m. m) (sym (k new n ∙ en)) s)

-- an element stands in it once
pub stands_once : (f : ℕ → ℕ) (x : ℕ) (xs : List ℕ) (old : ℕ) (ys : List ℕ) → Pos (xs ++ old ∷ ys) → Run f (f x) (xs ++ old ∷ ys) 0
    → In old (xs ++ ys) → ⊥
stands_once f x [] old ys p r m = self f old ys (λ y k. p y (inr k)) r.1 m
stands_once f x (y ∷ xs) old ys p r (inl e) = self f y (xs ++ old ∷ ys) (λ z k. p z (inr k)) r.1 (mid_in y old xs ys (inl (sym e)))
stands_once f x (y ∷ xs) old ys p r (inr m) = stands_once f y xs old ys (λ z k. p z (inr k)) r.1 m
