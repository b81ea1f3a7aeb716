-- Recovery's test for 7, and that the sharers of each version agree. Assumes nothing.
use mathlib.Core.Path.{◌≡◌, refl, sym, ap, ◌∙◌}
use mathlib.Core.Bool.{Bool, true, false, cond, ◌&&◌}
use Prim.Native.Nat.{ℕ, ◌-◌, ◌<◌}
use native.Mathlib.Omega.{arith}
use lib.Dec.{ltb, eqb}
use borrow.Author.Tests.{eqb-true, eqb-false, ltb-false, ltb-true, eq-eqb, le-ltb}
use Rattle.layout.specs.Content.{Table, highest_whole_in}
use Rattle.prelude.specs.Members.{Slot}
use Rattle.prelude.specs.Range.{any_of}
use Rattle.prelude.proofs.Any.{or_none, any_none_slot, any_clear_slot}
use Rattle.prelude.proofs.Choice.{true-false, is_false, both_left, pick_true, both_right, false_left, false_right, pick_false}
use Rattle.table.specs.Complete.{SizeFields, basket_size, sharers, has_version}
use Rattle.table.specs.Shared.{clashes, sharers_fault}
use Rattle.table.specs.Table.{is_record, key_in}
use Rattle.table.proofs.defs.Shared.{Agreed}
use Rattle.table.proofs.defs.Write.{ApartByKey}
use Rattle.table.proofs.Complete.{has-version, version_record, version_top}
use Rattle.table.proofs.OneSlot.{weight_counts, weight_version, weight_key}

module _ (f : Table) (num : SizeFields) (n : ℕ) where
  abbrev wrong : ℕ → Bool
  wrong s = is_record (f s) && cond (ltb (basket_size (num s)) (sharers f n (highest_whole_in (f s)))) true (any_of (clashes f num s) 1 (s - 1))

  -- a test that fails though its first half holds
  second : (a b : Bool) → a && b ≡ false → a ≡ true → b ≡ false
  second true b e p = e
  second false b e p = absurd (true-false p refl)

  chosen : (x y : Bool) → cond x y true ≡ false → (x ≡ true) × (y ≡ false)
  chosen true y e = (refl, e)
  chosen false y e = absurd (true-false refl e)

  module _ (fine : sharers_fault f num n ≡ false) where
    parts : (s : ℕ) → Slot n s → is_record (f s) ≡ true
        → (ltb (basket_size (num s)) (sharers f n (highest_whole_in (f s))) ≡ false) × (any_of (clashes f num s) 1 (s - 1) ≡ false)
    unfolding sharers_fault
    parts s i c =
        or_none (ltb (basket_size (num s)) (sharers f n (highest_whole_in (f s)))) (any_of (clashes f num s) 1 (s - 1))
        (second (is_record (f s)) _ (any_none_slot wrong n fine s i) c)

    pair : (s t : ℕ) → Slot n s → Slot n t → t < s → is_record (f s) ≡ true → is_record (f t) ≡ true → highest_whole_in (f s) ≡ highest_whole_in (f t)
        → (num s ≡ num t) × (key_in (f s) ≡ key_in (f t) → ⊥)
    unfolding clashes
    pair s t i j l p q e =
        let none = any_none_slot (clashes f num s) (s - 1) (parts s i p).1 t (omega arith) in
        let a = chosen (eqb (num s) (num t)) (eqb (key_in (f s)) (key_in (f t)))
        (second (has_version f (highest_whole_in (f s)) t) _ none (has-version f (highest_whole_in (f s)) t q (sym e))) in
        (eqb-true (num s) (num t) a.0, eqb-false (key_in (f s)) (key_in (f t)) a.1)

    -- where the test finds nothing they agree
    pub fault_agreed : Agreed f num n
    fault_agreed = record {
      numbers = λ s t i j p q e. numbers s t i j p q e (ltb s t) refl (ltb t s) refl;
      few = λ s i p. ltb-false (basket_size (num s)) (sharers f n (highest_whole_in (f s))) (parts s i p).0;
      keys = λ s t i j ne p q e k. keys s t i j ne p q e k (ltb s t) refl;
    }
      where
        numbers : (s t : ℕ) → Slot n s → Slot n t → is_record (f s) ≡ true → is_record (f t) ≡ true → highest_whole_in (f s) ≡ highest_whole_in (f t)
            → (x : Bool) → ltb s t ≡ x → (y : Bool) → ltb t s ≡ y → num s ≡ num t
        numbers s t i j p q e true l y m = sym (pair t s j i (ltb-true s t l) q p (sym e)).0
        numbers s t i j p q e false l true m = (pair s t i j (ltb-true t s m) p q e).0
        numbers s t i j p q e false l false m = let z : s ≡ t = omega (arith, ltb-false s t l, ltb-false t s m) in ap num z

        keys : (s t : ℕ) → Slot n s → Slot n t → (s ≡ t → ⊥) → is_record (f s) ≡ true → is_record (f t) ≡ true → highest_whole_in (f s) ≡ highest_whole_in (f t)
            → key_in (f s) ≡ key_in (f t) → (x : Bool) → ltb s t ≡ x → ⊥
        keys s t i j ne p q e k true l = (pair t s j i (ltb-true s t l) q p (sym e)).1 (sym k)
        keys s t i j ne p q e k false l = (pair s t i j (omega (arith, ltb-false s t l, ne)) p q e).1 k

  -- and it finds nothing where they agree
  pub agreed_fault : Agreed f num n → sharers_fault f num n ≡ false
  unfolding sharers_fault clashes
  agreed_fault a = any_clear_slot wrong n (λ s i. go s i (is_record (f s)) refl)
    where
      none : (s : ℕ) → Slot n s → is_record (f s) ≡ true → (t : ℕ) → Slot n t → t < s → clashes f num s t ≡ false
      none s i p t j l =
          is_false (clashes f num s t)
          (λ e.
          let c = both_left (has_version f (highest_whole_in (f s)) t) _ e in
          let same = a.numbers s t i j p (version_record f (highest_whole_in (f s)) t c) (sym (version_top f (highest_whole_in (f s)) t c)) in
          a.keys s t i j (λ z. omega arith) p (version_record f (highest_whole_in (f s)) t c) (sym (version_top f (highest_whole_in (f s)) t c))
          (eqb-true (key_in (f s)) (key_in (f t))
          (sym (pick_true (eqb (num s) (num t)) _ _ (eq-eqb (num s) (num t) same)) ∙ both_right (has_version f (highest_whole_in (f s)) t) _ e)))

      go : (s : ℕ) → Slot n s → (x : Bool) → is_record (f s) ≡ x → wrong s ≡ false
      go s i false c = false_left (is_record (f s)) _ c
      go s i true c =
          false_right (is_record (f s)) _
          (pick_false (ltb (basket_size (num s)) (sharers f n (highest_whole_in (f s)))) _ _
          (le-ltb (basket_size (num s)) (sharers f n (highest_whole_in (f s))) (a.few s i c))
          ∙ any_clear_slot (clashes f num s) (s - 1) (λ t j. none s i c t (omega arith) (omega arith)))

-- where they agree the records of a key have different versions
pub agreed_apart : (f : Table) (num : SizeFields) (n : ℕ) → Agreed f num n → ApartByKey f n
agreed_apart f num n a k s t i j ne p e =
    a.keys s t i j ne (weight_counts k (f s) p) (weight_counts k (f t) (omega arith))
    (omega (arith, weight_version k (f s) p, weight_version k (f t) (omega arith)))
    (weight_key k (f s) p ∙ sym (weight_key k (f t) (omega arith)))
