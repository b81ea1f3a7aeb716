-- Membership in a list of given numbers, by computing, and the list's numbers as a set. Assumes nothing.
use mathlib.Core.Path.{◌≡◌, refl, sym, ap, ◌∙◌, subst}
use mathlib.Core.Bool.{Bool, true, false, cond, true≢false}
use mathlib.Core.Logic.{◌⊎◌, inl, inr}
use mathlib.Core.List.{List, [], ◌∷◌}
use Prim.Native.Nat.{ℕ, suc}
use lib.Dec.{eqb}
use lib.ListN.{length}
use borrow.Author.Tests.{eqb-true, eq-eqb, ne_eqb}
use Rattle.prelude.specs.Members.{In, Once, Slot}
use Rattle.prelude.specs.Range.{count}
use Rattle.prelude.proofs.defs.Among.{is_one, are_among, member}
use Rattle.prelude.proofs.Choice.{pick_true, true-false, is_false, pick_false, both_of}
use Rattle.prelude.proofs.Count.{count_none, count_more}

pub one_of : (k : ℕ) (ks : List ℕ) → is_one k ks ≡ true → In k ks
one_of k [] e = absurd (true≢false (sym e))
one_of k (x ∷ xs) e = go (eqb k x) refl e (one_of k xs)
  where
    go : (b : Bool) → eqb k x ≡ b → cond b true (is_one k xs) ≡ true → (is_one k xs ≡ true → In k xs) → (k ≡ x) ⊎ In k xs
    go true t h later = inl (eqb-true k x t)
    go false t h later = inr (later h)

-- what is in a list is in one that has all its numbers
pub among : (xs ys : List ℕ) → are_among xs ys ≡ true → (k : ℕ) → In k xs → In k ys
among [] ys e k x'' = elim x'' [ ]
among (x ∷ xs) ys e k (inl p) = subst (λ (y : ℕ). In y ys) (sym p) (one_of x ys (both_of (is_one x ys) (are_among xs ys) e).0)
among (x ∷ xs) ys e k (inr i) = among xs ys (both_of (is_one x ys) (are_among xs ys) e).1 k i

-- ---- the numbers of a list as a set

pub member_in : (l : List ℕ) (t : ℕ) → member l t ≡ true → In t l
unfolding member
member_in l t e = one_of t l e

pub in_member : (l : List ℕ) (t : ℕ) → In t l → member l t ≡ true
unfolding member
in_member [] t i = absurd i
in_member (x ∷ l) t (inl e) = pick_true (eqb t x) true (is_one t l) (eq-eqb t x e)
in_member (x ∷ l) t (inr i) = either (eqb t x) (in_member l t i)
  where
    either : (b : Bool) → is_one t l ≡ true → cond b true (is_one t l) ≡ true
    either true e = refl
    either false e = e

pub not_member : (l : List ℕ) (t : ℕ) → member l t ≡ false → In t l → ⊥
not_member l t e i = true-false (in_member l t i) e

pub out_member : (l : List ℕ) (t : ℕ) → (In t l → ⊥) → member l t ≡ false
out_member l t h = is_false (member l t) (λ e. h (member_in l t e))

pub member_none : (t : ℕ) → member [] t ≡ false
unfolding member
member_none t = refl

pub member_head : (x : ℕ) (l : List ℕ) → member (x ∷ l) x ≡ true
member_head x l = in_member (x ∷ l) x (inl refl)

pub member_tail : (x t : ℕ) (l : List ℕ) → (t ≡ x → ⊥) → member (x ∷ l) t ≡ member l t
unfolding member
member_tail x t l ne = pick_false (eqb t x) true (is_one t l) (ne_eqb t x ne)

-- a list of slots, each once, has as many slots as it is long
pub count-member : (l : List ℕ) (n : ℕ) → Once l → ((t : ℕ) → In t l → Slot n t) → count (member l) n ≡ length l
count-member [] n o i = count_none (member []) n (λ t j. member_none t)
count-member (x ∷ l) n o i =
    count_more (member l) (member (x ∷ l)) n x (i x (inl refl)) (out_member l x o.0) (member_head x l) (λ t j ne. member_tail x t l ne)
    ∙ ap suc (count-member l n o.1 (λ t j. i t (inr j)))
