-- Whose each slot is, as slots are given and chains change. Assumes nothing.
use mathlib.Core.Path.{◌≡◌, refl, sym, ap, ◌∙◌, fun_ext}
use mathlib.Core.Bool.{Bool, true, false, cond}
use mathlib.Core.Logic.{◌⊎◌, inl, inr}
use mathlib.Core.List.{List, ◌∷◌, ◌++◌}
use Prim.Native.Nat.{ℕ}
use native.Mathlib.Omega.{arith}
use lib.Dec.{eqb}
use borrow.Author.Tests.{eq-eqb, ne_eqb, eqb-true, eqb-false}
use Rattle.index.specs.Index.{Chain, reuse, head}
use Rattle.prelude.specs.Members.{In}
use Rattle.index.specs.Linked.{Owner, free, of, Owned}
use Rattle.index.proofs.defs.Linked.{same_chain, give, with_chain}
use Rattle.prelude.proofs.Paths.{in_mid, mid_in}

-- two numbers are the same or not, as a test and as a fact
pub data Told (x y : ℕ) : Type 0 where
  is : eqb x y ≡ true → x ≡ y → Told x y
  isnt : eqb x y ≡ false → (x ≡ y → ⊥) → Told x y

pub told : (x y : ℕ) → Told x y
told x y = go (eqb x y) refl
  where
    go : (b : Bool) → eqb x y ≡ b → Told x y
    go true e = is e (eqb-true x y e)
    go false e = isnt e (eqb-false x y e)

-- and two chains
pub data Which (c k : Chain) : Type 0 where
  that : same_chain c k ≡ true → c ≡ k → Which c k
  other : same_chain c k ≡ false → (c ≡ k → ⊥) → Which c k

pub apart_heads : (h k : ℕ) → head h ≡ head k → h ≡ k
apart_heads h k e = cc

pub reuse_apart : (h : ℕ) → reuse ≡ head h → ⊥
reuse_apart h e = let z : ◌≡◌ {A = ℕ} 0 1 = cc in omega arith

pub which : (c k : Chain) → Which c k
which reuse reuse = that refl refl
which reuse (head k) = other refl (reuse_apart k)
which (head h) reuse = other refl (λ e. reuse_apart h (sym e))
which (head h) (head k) = go (told h k)
  where
    go : Told h k → Which (head h) (head k)
    go (is t e) = that t (ap head e)
    go (isnt t n) = other t (λ e. n (apart_heads h k e))

pub free_of : (c : Chain) → free ≡ of c → ⊥
free_of c e = let z : ◌≡◌ {A = ℕ} 0 1 = cc in omega arith

pub of-of : (c k : Chain) → of c ≡ of k → c ≡ k
of-of c k e = cc

pub give_same : (owner : ℕ → Owner) (s : ℕ) (o : Owner) (x : ℕ) → x ≡ s → give owner s o x ≡ o
unfolding give
give_same owner s o x e = rw (eq-eqb x s e)

pub give_other : (owner : ℕ → Owner) (s : ℕ) (o : Owner) (x : ℕ) → (x ≡ s → ⊥) → give owner s o x ≡ owner x
unfolding give
give_other owner s o x n = rw (ne_eqb x s n)

pub with_same : (chains : Chain → List ℕ) (c : Chain) (xs : List ℕ) → with_chain chains c xs c ≡ xs
unfolding with_chain
with_same chains c xs = go (which c c)
  where
    go : Which c c → cond (same_chain c c) xs (chains c) ≡ xs
    go (that t e) = rw t
    go (other t n) = absurd (n refl)

pub with_other : (chains : Chain → List ℕ) (c : Chain) (xs : List ℕ) (k : Chain) → (k ≡ c → ⊥) → with_chain chains c xs k ≡ chains k
unfolding with_chain
with_other chains c xs k n = go (which k c)
  where
    go : Which k c → cond (same_chain k c) xs (chains k) ≡ chains k
    go (that t e) = absurd (n e)
    go (other t _) = rw t

-- a fact of every chain, by the chain that changed and the others
pub with-all : (P : Chain → List ℕ → Type 0) (chains : Chain → List ℕ) (c : Chain) (xs : List ℕ) → P c xs
    → ((k : Chain) → (k ≡ c → ⊥) → P k (chains k)) → (k : Chain) → P k (with_chain chains c xs k)
with-all P chains c xs p q k = go (which k c)
  where
    go : Which k c → P k (with_chain chains c xs k)
    go (that t e) = rw (e, with_same chains c xs) p
    go (other t n) = rw (with_other chains c xs k n) (q k n)

-- s, which nobody had, joins chain c
pub owned_add : (owner : ℕ → Owner) (chains : Chain → List ℕ) (c : Chain) (s : ℕ) (xs ys : List ℕ) → Owned owner chains
    → chains c ≡ xs ++ ys → owner s ≡ free
    → Owned (give owner s (of c)) (with_chain chains c (xs ++ s ∷ ys))
owned_add owner chains c s xs ys o e f =
    record {
      mine = with-all Mine chains c (xs ++ s ∷ ys) (λ x m. here x (in_mid x s xs ys m)) (λ k n x m. there k x m);
      has = with-all Has chains c (xs ++ s ∷ ys) back back_there;
    }
  where
    Mine : Chain → List ℕ → Type 0
    Mine k l = (x : ℕ) → In x l → give owner s (of c) x ≡ of k

    Has : Chain → List ℕ → Type 0
    Has k l = (x : ℕ) → give owner s (of c) x ≡ of k → In x l

    unlike : (k : Chain) (x : ℕ) → owner x ≡ of k → x ≡ s → ⊥
    unlike k x p d = free_of k (sym f ∙ ap owner (sym d) ∙ p)

    there : (k : Chain) (x : ℕ) → In x (chains k) → give owner s (of c) x ≡ of k
    there k x m = give_other owner s (of c) x (unlike k x (o.mine k x m)) ∙ o.mine k x m

    here : (x : ℕ) → (x ≡ s) ⊎ In x (xs ++ ys) → give owner s (of c) x ≡ of c
    here x (inl d) = give_same owner s (of c) x d
    here x (inr m) = there c x (rw e m)

    back : (x : ℕ) → give owner s (of c) x ≡ of c → In x (xs ++ s ∷ ys)
    back x p = go (told x s)
      where
        go : Told x s → In x (xs ++ s ∷ ys)
        go (is t d) = mid_in x s xs ys (inl d)
        go (isnt t n) = mid_in x s xs ys (inr (rw e at (o.has c x (sym (give_other owner s (of c) x n) ∙ p))))

    back_there : (k : Chain) → (k ≡ c → ⊥) → (x : ℕ) → give owner s (of c) x ≡ of k → In x (chains k)
    back_there k n x p = go (told x s)
      where
        go : Told x s → In x (chains k)
        go (is t d) = absurd (n (of-of k c (sym p ∙ give_same owner s (of c) x d)))
        go (isnt t u) = o.has k x (sym (give_other owner s (of c) x u) ∙ p)

-- s leaves chain c, where it stood once
pub owned_drop : (owner : ℕ → Owner) (chains : Chain → List ℕ) (c : Chain) (s : ℕ) (xs ys : List ℕ) → Owned owner chains
    → chains c ≡ xs ++ s ∷ ys
    → (In s (xs ++ ys) → ⊥)
    → Owned (give owner s free) (with_chain chains c (xs ++ ys))
owned_drop owner chains c s xs ys o e alone =
    record {
      mine = with-all Mine chains c (xs ++ ys) here there;
      has = with-all Has chains c (xs ++ ys) back (λ k n x p. back_there k x p);
    }
  where
    Mine : Chain → List ℕ → Type 0
    Mine k l = (x : ℕ) → In x l → give owner s free x ≡ of k

    Has : Chain → List ℕ → Type 0
    Has k l = (x : ℕ) → give owner s free x ≡ of k → In x l

    hers : owner s ≡ of c
    hers = o.mine c s (rw e (mid_in s s xs ys (inl refl)))

    here : (x : ℕ) → In x (xs ++ ys) → give owner s free x ≡ of c
    here x m = give_other owner s free x (λ d. alone (rw d at m)) ∙ o.mine c x (rw e (mid_in x s xs ys (inr m)))

    there : (k : Chain) → (k ≡ c → ⊥) → (x : ℕ) → In x (chains k) → give owner s free x ≡ of k
    there k n x m =
        give_other owner s free x (λ d. n (of-of k c (sym (o.mine k x m) ∙ ap owner d ∙ hers))) ∙ o.mine k x m

    isnt_s : (k : Chain) (x : ℕ) → give owner s free x ≡ of k → x ≡ s → ⊥
    isnt_s k x p d = free_of k (sym (give_same owner s free x d) ∙ p)

    back_there : (k : Chain) (x : ℕ) → give owner s free x ≡ of k → In x (chains k)
    back_there k x p = o.has k x (sym (give_other owner s free x (isnt_s k x p)) ∙ p)

    back : (x : ℕ) → give owner s free x ≡ of c → In x (xs ++ ys)
    back x p = go (in_mid x s xs ys (rw e at (back_there c x p)))
      where
        go : (x ≡ s) ⊎ In x (xs ++ ys) → In x (xs ++ ys)
        go (inl d) = absurd (isnt_s c x p d)
        go (inr m) = m

pub with_twice : (chains : Chain → List ℕ) (c : Chain) (xs ys : List ℕ) → with_chain (with_chain chains c xs) c ys ≡ with_chain chains c ys
with_twice chains c xs ys = fun_ext (λ k. go k (which k c))
  where
    go : (k : Chain) → Which k c → with_chain (with_chain chains c xs) c ys k ≡ with_chain chains c ys k
    go k (that t e) = rw e (with_same (with_chain chains c xs) c ys ∙ sym (with_same chains c ys))
    go k (other t n) = with_other (with_chain chains c xs) c ys k n ∙ with_other chains c xs k n ∙ sym (with_other chains c ys k n)

pub with_swap : (chains : Chain → List ℕ) (c d : Chain) (xs ys : List ℕ) → (c ≡ d → ⊥)
    → with_chain (with_chain chains c xs) d ys ≡ with_chain (with_chain chains d ys) c xs
with_swap chains c d xs ys n = fun_ext (λ k. go k (which k c) (which k d))
  where
    go : (k : Chain) → Which k c → Which k d → with_chain (with_chain chains c xs) d ys k ≡ with_chain (with_chain chains d ys) c xs k
    go k (that t e) (that u g) = absurd (n (sym e ∙ g))
    go k (that t e) (other u g) =
        with_other (with_chain chains c xs) d ys k g ∙ rw e (with_same chains c xs ∙ sym (with_same (with_chain chains d ys) c xs))
    go k (other t m) (that u g) =
        rw g (with_same (with_chain chains c xs) d ys ∙ sym (with_same chains d ys)) ∙ sym (with_other (with_chain chains d ys) c xs k m)
    go k (other t m) (other u g) =
        with_other (with_chain chains c xs) d ys k g ∙ with_other chains c xs k m ∙ sym (with_other chains d ys k g) ∙ sym
        (with_other (with_chain chains d ys) c xs k m)

pub give_twice : (owner : ℕ → Owner) (s : ℕ) (o p : Owner) → give (give owner s o) s p ≡ give owner s p
give_twice owner s o p = fun_ext (λ x. go x (told x s))
  where
    go : (x : ℕ) → Told x s → give (give owner s o) s p x ≡ give owner s p x
    go x (is t e) = give_same (give owner s o) s p x e ∙ sym (give_same owner s p x e)
    go x (isnt t n) = give_other (give owner s o) s p x n ∙ give_other owner s o x n ∙ sym (give_other owner s p x n)

pub give_swap : (owner : ℕ → Owner) (s t : ℕ) (o p : Owner) → (s ≡ t → ⊥) → give (give owner s o) t p ≡ give (give owner t p) s o
give_swap owner s t o p n = fun_ext (λ x. go x (told x s) (told x t))
  where
    go : (x : ℕ) → Told x s → Told x t → give (give owner s o) t p x ≡ give (give owner t p) s o x
    go x (is a e) (is b g) = absurd (n (sym e ∙ g))
    go x (is a e) (isnt b g) = give_other (give owner s o) t p x g ∙ give_same owner s o x e ∙ sym (give_same (give owner t p) s o x e)
    go x (isnt a m) (is b g) = give_same (give owner s o) t p x g ∙ sym (give_other (give owner t p) s o x m ∙ give_same owner t p x g)
    go x (isnt a m) (isnt b g) =
        give_other (give owner s o) t p x g ∙ give_other owner s o x m ∙ sym
        (give_other (give owner t p) s o x m ∙ give_other owner t p x g)

pub give_idle : (owner : ℕ → Owner) (s : ℕ) (o : Owner) → owner s ≡ o → give owner s o ≡ owner
give_idle owner s o e = fun_ext (λ x. go x (told x s))
  where
    go : (x : ℕ) → Told x s → give owner s o x ≡ owner x
    go x (is t d) = give_same owner s o x d ∙ sym e ∙ ap owner (sym d)
    go x (isnt t n) = give_other owner s o x n
