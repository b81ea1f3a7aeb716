-- How many slots pass a test. Assumes nothing.
use mathlib.Core.Path.{◌≡◌, refl, sym, ap, ap₂, ◌∙◌}
use mathlib.Core.Bool.{Bool, true, false, cond}
use mathlib.Core.List.{List, [], ◌∷◌, ◌++◌}
use Prim.Native.Nat.{ℕ, zero, suc, ◌+◌, ◌≤◌, ◌<◌}
use native.Mathlib.Omega.{arith}
use lib.Dec.{eqb}
use lib.ListN.{length}
use borrow.Author.Tests.{eqb-true, eqb-false}
use Rattle.prelude.specs.Filter.{filter}
use Rattle.prelude.specs.Members.{Slot, slot_numbers}
use Rattle.prelude.specs.Range.{count}
use Rattle.prelude.proofs.Choice.{pick_true, pick_false, true-false}

abbrev step : Bool → ℕ → ℕ
step b m = cond b (suc m) m

pub count_same : (p q : ℕ → Bool) (n : ℕ) → ((t : ℕ) → Slot n t → p t ≡ q t) → count p n ≡ count q n
unfolding count
count_same p q zero h = refl
count_same p q (suc n) h = ap₂ step (h (suc n) (omega arith)) (count_same p q n (λ t i. h t (omega arith)))

pub count_none : (p : ℕ → Bool) (n : ℕ) → ((t : ℕ) → Slot n t → p t ≡ false) → count p n ≡ 0
unfolding count
count_none p zero h = refl
count_none p (suc n) h = ap₂ step (h (suc n) (omega arith)) (count_none p n (λ t i. h t (omega arith)))

pub count_most : (p : ℕ → Bool) (n : ℕ) → count p n ≤ n
unfolding count
count_most p zero = omega arith
count_most p (suc n) = go (p (suc n)) (count_most p n)
  where
    go : (b : Bool) → count p n ≤ n → step b (count p n) ≤ suc n
    go true h = omega arith
    go false h = omega arith

-- one slot more passes it
pub count_more : (p q : ℕ → Bool) (n s : ℕ) → Slot n s → p s ≡ false → q s ≡ true → ((t : ℕ) → Slot n t → (t ≡ s → ⊥) → q t ≡ p t) → count q n ≡ suc (count p n)
unfolding count
count_more p q zero s i e d h = absurd (omega arith)
count_more p q (suc n) s i e d h = go (eqb s (suc n)) refl (count_more p q n s)
  where
    go : (b : Bool) → eqb s (suc n) ≡ b
        → (Slot n s → p s ≡ false → q s ≡ true → ((t : ℕ) → Slot n t → (t ≡ s → ⊥) → q t ≡ p t) → count q n ≡ suc (count p n))
        → step (q (suc n)) (count q n) ≡ suc (step (p (suc n)) (count p n))
    go true l ih =
        let r = eqb-true s (suc n) l in
        ap₂ step (sym (ap q r) ∙ d) (count_same q p n (λ t j. h t (omega arith) (λ x. omega arith)))
        ∙ ap suc (sym (ap (λ (b : Bool). step b (count p n)) (sym (ap p r) ∙ e)))
    go false l ih =
        let r = eqb-false s (suc n) l in
        ap₂ step (h (suc n) (omega arith) (λ x. r (sym x))) (ih (omega (arith, r)) e d (λ t j. h t (omega arith))) ∙ last (p (suc n))
      where
        last : (b : Bool) → step b (suc (count p n)) ≡ suc (step b (count p n))
        last true = refl
        last false = refl

-- a slot that fails the test
pub data Gap (p : ℕ → Bool) (n : ℕ) : Type 0 where
  gap : (s : ℕ) → Slot n s → p s ≡ false → Gap p n

-- where not all pass it some slot fails
pub count_gap : (p : ℕ → Bool) (n : ℕ) → count p n < n → Gap p n
unfolding count
count_gap p zero h = absurd (omega arith)
count_gap p (suc n) h = go (p (suc n)) refl (count_gap p n) h
  where
    wider : Gap p n → Gap p (suc n)
    wider (gap s i e) = gap s (omega arith) e

    go : (b : Bool) → p (suc n) ≡ b → (count p n < n → Gap p n) → step b (count p n) < suc n → Gap p (suc n)
    go true e ih l = wider (ih (omega arith))
    go false e ih l = gap (suc n) (omega arith) e

-- where each that passes one test passes another, no more pass it
pub count_fewer : (p q : ℕ → Bool) (n : ℕ) → ((t : ℕ) → Slot n t → q t ≡ true → p t ≡ true) → count q n ≤ count p n
unfolding count
count_fewer p q zero h = omega arith
count_fewer p q (suc n) h = go (q (suc n)) refl (p (suc n)) refl (count_fewer p q n (λ t i. h t (omega arith)))
  where
    go : (x : Bool) → q (suc n) ≡ x → (y : Bool) → p (suc n) ≡ y → count q n ≤ count p n → step x (count q n) ≤ step y (count p n)
    go true e true d ih = omega arith
    go true e false d ih = absurd (true-false (h (suc n) (omega arith) e) d)
    go false e true d ih = omega arith
    go false e false d ih = ih

-- and fewer where one that passes the other fails it
pub count_less : (p q : ℕ → Bool) (n s : ℕ) → Slot n s → q s ≡ false → p s ≡ true → ((t : ℕ) → Slot n t → q t ≡ true → p t ≡ true)
    → count q n < count p n
unfolding count
count_less p q zero s i e d h = absurd (omega arith)
count_less p q (suc n) s i e d h = go (eqb s (suc n)) refl (count_less p q n s)
  where
    below : (t : ℕ) → Slot n t → q t ≡ true → p t ≡ true
    below t j = h t (omega arith)

    go : (b : Bool) → eqb s (suc n) ≡ b → (Slot n s → q s ≡ false → p s ≡ true → ((t : ℕ) → Slot n t → q t ≡ true → p t ≡ true) → count q n < count p n)
        → step (q (suc n)) (count q n) < step (p (suc n)) (count p n)
    go true l ih =
        let r = eqb-true s (suc n) l in
        rw (sym (ap q r) ∙ e, sym (ap p r) ∙ d) (omega (arith, count_fewer p q n below))
    go false l ih = last (q (suc n)) (p (suc n)) (h (suc n) (omega arith)) (ih (omega (arith, eqb-false s (suc n) l)) e d below)
      where
        last : (a b : Bool) → (a ≡ true → b ≡ true) → count q n < count p n → step a (count q n) < step b (count p n)
        last true true k m = omega arith
        last true false k m = absurd (true-false (k refl) refl)
        last false true k m = omega arith
        last false false k m = m

-- as many as the list of all slots keeps
pub count-filter : (p : ℕ → Bool) (n : ℕ) → count p n ≡ length (filter p (slot_numbers n))
unfolding count slot_numbers filter
count-filter p zero = refl
count-filter p (suc n) = go (p (suc n)) refl (count-filter p n)
  where
    last : (l : List ℕ) (x : ℕ) (b : Bool) → p x ≡ b → length (filter p (l ++ (x ∷ []))) ≡ step b (length (filter p l))
    last [] x true e = rw e refl
    last [] x false e = rw e refl
    last (y ∷ l) x b e = at (p y) b (last l x b e)
      where
        at : (a c : Bool) → length (filter p (l ++ (x ∷ []))) ≡ step c (length (filter p l))
            → length (cond a (y ∷ filter p (l ++ (x ∷ []))) (filter p (l ++ (x ∷ [])))) ≡ step c (length (cond a (y ∷ filter p l) (filter p l)))
        at true true ih = ap suc ih
        at true false ih = ap suc ih
        at false c ih = ih

    go : (b : Bool) → p (suc n) ≡ b → count p n ≡ length (filter p (slot_numbers n)) → step b (count p n) ≡ length (filter p (slot_numbers n ++ (suc n ∷ [])))
    go b e ih = ap (step b) ih ∙ sym (last (slot_numbers n) (suc n) b e)

-- two tests that no slot passes both of
pub count_both : (p q r : ℕ → Bool) (n : ℕ) → ((t : ℕ) → Slot n t → r t ≡ cond (p t) true (q t)) → ((t : ℕ) → Slot n t → p t ≡ true → q t ≡ false)
    → count r n ≡ count p n + count q n
unfolding count
count_both p q r zero h k = refl
count_both p q r (suc n) h k =
    more (p (suc n)) (q (suc n)) (r (suc n)) (h (suc n) (omega arith)) (k (suc n) (omega arith)) (count p n) (count q n) (count r n)
    (count_both p q r n (λ t i. h t (omega arith)) (λ t i. k t (omega arith)))
  where
    more : (x y z : Bool) → z ≡ cond x true y → (x ≡ true → y ≡ false) → (a b c : ℕ) → c ≡ a + b
        → cond z (suc c) c ≡ cond x (suc a) a + cond y (suc b) b
    more true true z e d a b c ih = absurd (true-false refl (d refl))
    more true false z e d a b c ih = pick_true z (suc c) c e ∙ omega arith
    more false true z e d a b c ih = pick_true z (suc c) c e ∙ omega arith
    more false false z e d a b c ih = pick_false z (suc c) c e ∙ ih
