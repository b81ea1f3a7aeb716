-- Membership in lists put together, and the list of all slots. Assumes nothing.
use mathlib.Core.Path.{◌≡◌, refl, sym, ap, ap₂, ◌∙◌}
use mathlib.Core.Bool.{Bool, true, false, cond}
use mathlib.Core.Logic.{◌⊎◌, inl, inr, ⊎_elim}
use mathlib.Core.List.{List, [], ◌∷◌, ◌++◌}
use Prim.Native.Nat.{ℕ, zero, suc, ◌≤◌, ◌<◌}
use native.Mathlib.Omega.{arith}
use lib.Dec.{eqb}
use lib.ListN.{length, take}
use lib.Seq.{length-take-le}
use borrow.Author.Tests.{eqb-true, eqb-false}
use Rattle.prelude.specs.Filter.{filter}
use Rattle.prelude.specs.Members.{In, Once, slot_numbers, Slot, Strict}
use Rattle.prelude.proofs.defs.Members.{without}
use Rattle.prelude.proofs.Choice.{pick_false, pick_true}
use Rattle.prelude.proofs.Fills.{length_slots}

pub in_append : (t : ℕ) (l m : List ℕ) → In t (l ++ m) → In t l ⊎ In t m
in_append t [] m i = inr i
in_append t (x ∷ l) m (inl e) = inl (inl e)
in_append t (x ∷ l) m (inr i) = ⊎_elim (λ a. inl (inr a)) (λ b. inr b) (in_append t l m i)

pub in_left : (t : ℕ) (l m : List ℕ) → In t l → In t (l ++ m)
in_left t [] m i = absurd i
in_left t (x ∷ l) m (inl e) = inl e
in_left t (x ∷ l) m (inr i) = inr (in_left t l m i)

pub in_right : (t : ℕ) (l m : List ℕ) → In t m → In t (l ++ m)
in_right t [] m i = i
in_right t (x ∷ l) m i = inr (in_right t l m i)

pub in_at : (x y : ℕ) (l : List ℕ) → x ≡ y → In x l → In y l
in_at x y l e i = rw e at i

pub once_append : (l m : List ℕ) → Once l → Once m → ((t : ℕ) → In t l → In t m → ⊥) → Once (l ++ m)
once_append [] m a b h = b
once_append (x ∷ l) m a b h = (
  (λ i. ⊎_elim (λ p. a.0 p) (λ q. h x (inl refl) q) (in_append x l m i)),
  once_append l m a.1 b (λ t i j. h t (inr i) j),
)

pub slots-in : (n t : ℕ) → In t (slot_numbers n) → Slot n t
unfolding slot_numbers
slots-in zero t i = absurd i
slots-in (suc n) t i = go (in_append t (slot_numbers n) (suc n ∷ []) i) (slots-in n t)
  where
    go : In t (slot_numbers n) ⊎ In t (suc n ∷ []) → (In t (slot_numbers n) → Slot n t) → Slot (suc n) t
    go (inl j) ih = omega (arith, ih j)
    go (inr (inl e)) ih = omega arith
    go (inr (inr b)) ih = absurd b

pub in_slots : (n t : ℕ) → Slot n t → In t (slot_numbers n)
unfolding slot_numbers
in_slots zero t i = absurd (omega arith)
in_slots (suc n) t i = go (eqb t (suc n)) refl (in_slots n t)
  where
    go : (b : Bool) → eqb t (suc n) ≡ b → (Slot n t → In t (slot_numbers n)) → In t (slot_numbers n ++ (suc n ∷ []))
    go true e ih = in_right t (slot_numbers n) (suc n ∷ []) (inl (eqb-true t (suc n) e))
    go false e ih = in_left t (slot_numbers n) (suc n ∷ []) (ih (omega (arith, eqb-false t (suc n) e)))

pub once_slots : (n : ℕ) → Once (slot_numbers n)
unfolding slot_numbers
once_slots zero = tt
once_slots (suc n) = once_append (slot_numbers n) (suc n ∷ []) (once_slots n) ((λ b. b), tt) apart
  where
    apart : (t : ℕ) → In t (slot_numbers n) → In t (suc n ∷ []) → ⊥
    apart t i (inl e) = omega (arith, slots-in n t i)
    apart t i (inr b) = b

-- l has each slot 1 to n once
pub record AllSlots (n : ℕ) (l : List ℕ) : Type 0 where
  pub size : length l ≡ n
  pub once : Once l
  pub within : (t : ℕ) → In t l → Slot n t
  pub all : (t : ℕ) → Slot n t → In t l

pub whole_slots : (n : ℕ) → AllSlots n (slot_numbers n)
whole_slots n = record { size = length_slots n; once = once_slots n; within = slots-in n; all = in_slots n }

-- ---- a list without an element

pub in_without : (x t : ℕ) (l : List ℕ) → In t l → (t ≡ x → ⊥) → In t (without x l)
unfolding without
in_without x t [] i ne = absurd i
in_without x t (y ∷ l) i ne = go (eqb x y) refl i (in_without x t l)
  where
    go : (b : Bool) → eqb x y ≡ b → In t (y ∷ l) → (In t l → (t ≡ x → ⊥) → In t (without x l)) → In t (cond b l (y ∷ without x l))
    go true e (inl q) ih = absurd (ne (q ∙ sym (eqb-true x y e)))
    go true e (inr j) ih = j
    go false e (inl q) ih = inl q
    go false e (inr j) ih = inr (ih j ne)

-- what is left was there
pub without_in : (x t : ℕ) (l : List ℕ) → In t (without x l) → In t l
unfolding without
without_in x t [] i = absurd i
without_in x t (y ∷ l) i = go (eqb x y) i (without_in x t l)
  where
    go : (b : Bool) → In t (cond b l (y ∷ without x l)) → (In t (without x l) → In t l) → In t (y ∷ l)
    go true i ih = inr i
    go false (inl e) ih = inl e
    go false (inr i) ih = inr (ih i)

pub once_without : (x : ℕ) (l : List ℕ) → Once l → Once (without x l)
unfolding without
once_without x [] o = tt
once_without x (y ∷ l) o = go (eqb x y) (once_without x l o.1)
  where
    go : (b : Bool) → Once (without x l) → Once (cond b l (y ∷ without x l))
    go true ih = o.1
    go false ih = ((λ i. o.0 (without_in x y l i)), ih)

-- x is not left where it stood once
pub without_gone : (x : ℕ) (l : List ℕ) → Once l → In x (without x l) → ⊥
unfolding without
without_gone x [] o i = i
without_gone x (y ∷ l) o i = go (eqb x y) refl i (without_gone x l o.1)
  where
    go : (b : Bool) → eqb x y ≡ b → In x (cond b l (y ∷ without x l)) → (In x (without x l) → ⊥) → ⊥
    go true e i ih = o.0 (rw (eqb-true x y e) at i)
    go false e (inl q) ih = eqb-false x y e q
    go false e (inr i) ih = ih i

without-length : (x : ℕ) (l : List ℕ) → In x l → length l ≡ suc (length (without x l))
unfolding without
without-length x [] i = absurd i
without-length x (y ∷ l) i = go (eqb x y) refl i (without-length x l)
  where
    go : (b : Bool) → eqb x y ≡ b → In x (y ∷ l) → (In x l → length l ≡ suc (length (without x l)))
        → suc (length l) ≡ suc (length (cond b l (y ∷ without x l)))
    go true e i ih = refl
    go false e (inl q) ih = absurd (eqb-false x y e q)
    go false e (inr i) ih = ap suc (ih i)

-- a list without doubles is no longer than one that holds its elements
pub no_longer : (l m : List ℕ) → Once l → ((t : ℕ) → In t l → In t m) → length l ≤ length m
no_longer [] m o h = omega arith
no_longer (x ∷ l) m o h =
    omega (
      arith,
      without-length x m (h x (inl refl)),
      no_longer l (without x m) o.1 (λ t i. in_without x t m (h t (inr i)) (λ e. o.0 (rw e at i))),
    )

-- ---- fronts

pub front_length : (k : ℕ) (list : List ℕ) → k ≤ length list → k ≡ length (take k list)
front_length k list h = sym (length-take-le k list h)

pub take_in : (m t : ℕ) (l : List ℕ) → In t (take m l) → In t l
take_in zero t l i = absurd i
take_in (suc m) t [] i = absurd i
take_in (suc m) t (x ∷ l) (inl e) = inl e
take_in (suc m) t (x ∷ l) (inr i) = inr (take_in m t l i)

pub once_take : (m : ℕ) (l : List ℕ) → Once l → Once (take m l)
once_take zero l o = tt
once_take (suc m) [] o = tt
once_take (suc m) (x ∷ l) o = ((λ i. o.0 (take_in m x l i)), once_take m l o.1)

-- a list that is not empty has an element
pub some_element : (l : List ℕ) → 0 < length l → (s : ℕ) × In s l
some_element [] p = absurd (omega arith)
some_element (x ∷ l) p = (x, inl refl)

-- ---- the slots rise

strict_append : (l : List ℕ) (m : ℕ) → Strict (λ t. t) l → ((t : ℕ) → In t l → t < m) → Strict (λ t. t) (l ++ m ∷ [])
strict_append [] m r h = ((λ y i. absurd i), tt)
strict_append (x ∷ l) m r h = ((λ y i. at y (in_append y l (m ∷ []) i)), strict_append l m r.1 (λ t i. h t (inr i)))
  where
    at : (y : ℕ) → In y l ⊎ In y (m ∷ []) → x < y
    at y (inl i) = r.0 y i
    at y (inr (inl e)) = omega (arith, h x (inl refl))
    at y (inr (inr z)) = absurd z

pub strict_slots : (n : ℕ) → Strict (λ t. t) (slot_numbers n)
unfolding slot_numbers
strict_slots zero = tt
strict_slots (suc n) = strict_append (slot_numbers n) (suc n) (strict_slots n) (λ t i. omega (arith, slots-in n t i))

-- ---- the part that passes a test

pub filter_append : (p : ℕ → Bool) (l r : List ℕ) → filter p (l ++ r) ≡ filter p l ++ filter p r
unfolding filter
filter_append p [] r = refl
filter_append p (x ∷ l) r = go (p x) (filter_append p l r)
  where
    go : (b : Bool) → filter p (l ++ r) ≡ filter p l ++ filter p r
        → cond b (x ∷ filter p (l ++ r)) (filter p (l ++ r)) ≡ cond b (x ∷ filter p l) (filter p l) ++ filter p r
    go true ih = ap (λ (t : List ℕ). x ∷ t) ih
    go false ih = ih

pub filter_none : (p : ℕ → Bool) (l : List ℕ) → ((t : ℕ) → In t l → p t ≡ false) → filter p l ≡ []
unfolding filter
filter_none p [] h = refl
filter_none p (x ∷ l) h = pick_false (p x) (x ∷ filter p l) (filter p l) (h x (inl refl)) ∙ filter_none p l (λ t i. h t (inr i))

pub filter_all : (p : ℕ → Bool) (l : List ℕ) → ((t : ℕ) → In t l → p t ≡ true) → filter p l ≡ l
unfolding filter
filter_all p [] h = refl
filter_all p (x ∷ l) h =
    pick_true (p x) (x ∷ filter p l) (filter p l) (h x (inl refl)) ∙ ap (λ (t : List ℕ). x ∷ t) (filter_all p l (λ t i. h t (inr i)))

pub filter_alike : (p q : ℕ → Bool) (l : List ℕ) → ((x : ℕ) → In x l → p x ≡ q x) → filter p l ≡ filter q l
unfolding filter
filter_alike p q [] h = refl
filter_alike p q (x ∷ l) h =
    ap₂ (λ (b : Bool) (t : List ℕ). cond b (x ∷ t) t) (h x (inl refl)) (filter_alike p q l (λ y i. h y (inr i)))
