-- Whether a slot may be taken after others, by those alone. Assumes nothing.
use mathlib.Core.Path.{◌≡◌, refl, ap, ◌∙◌}
use mathlib.Core.Bool.{Bool, true, false, cond, not, ◌&&◌}
use mathlib.Core.Logic.{◌⊎◌, inl, inr}
use mathlib.Core.List.{List}
use Prim.Native.Nat.{ℕ, zero, suc, ◌≤◌}
use native.Mathlib.Omega.{arith}
use lib.Dec.{ltb}
use Rattle.prelude.specs.Range.{any_of}
use Rattle.prelude.specs.Filter.{any_in}
use Rattle.prelude.specs.Members.{In, Slot}
use Rattle.prelude.proofs.Any.{in_any, any-in, any_none_slot, any_clear_slot, passing, Passing, passes, none_passes}
use Rattle.prelude.proofs.Choice.{same_test, split, true-false}
use Rattle.layout.specs.Content.{Table, highest_whole_in}
use Rattle.table.specs.Table.{is_record}
use Rattle.table.specs.Takeable.{highest_valid, is_remove, older, may_take, may_take_after, takeable_if}
use Rattle.table.proofs.Takeable.{older_record, older_key, older_below, is_older, highest_valid_above, barred, Barred, of_highest, has_older}

module _ (f : Table) (n : ℕ) where
  -- the two tests differ in where an older record is looked for
  by_older : (x : ℕ) → (a b : Bool) → a ≡ b
      → cond (is_record (f x)) (ltb (highest_whole_in (f x)) (highest_valid f n) && not (is_remove (f x) && a)) true
      ≡ cond (is_record (f x)) (ltb (highest_whole_in (f x)) (highest_valid f n) && not (is_remove (f x) && b)) true
  by_older x a b e = ap (λ (o : Bool). cond (is_record (f x)) (ltb (highest_whole_in (f x)) (highest_valid f n) && not (is_remove (f x) && o)) true) e

  -- of the older records of a slot's key one may be taken
  pub older_takeable : (s : ℕ) → Slot n s → is_record (f s) ≡ true → (k t : ℕ) → highest_whole_in (f t) ≤ k → Slot n t → older f s t ≡ true
      → (u : ℕ) × Slot n u × (older f s u ≡ true) × (may_take f n u ≡ true)
  older_takeable s i r zero t h j o = go (may_take f n t) refl
    where
      next : Barred f n t → (u : ℕ) × Slot n u × (older f s u ≡ true) × (may_take f n u ≡ true)
      next (of_highest a e) = absurd (omega (arith, older_below f s t o, highest_valid_above f n s i r, e))
      next (has_older a b u y d) = absurd (omega (arith, older_below f t u d))

      go : (b : Bool) → may_take f n t ≡ b → (u : ℕ) × Slot n u × (older f s u ≡ true) × (may_take f n u ≡ true)
      go true e = (t, j, o, e)
      go false e = next (barred f n t j e)
  older_takeable s i r (suc k) t h j o = go (may_take f n t) refl (λ u. older_takeable s i r k u)
    where
      next : Barred f n t
          → ((u : ℕ) → highest_whole_in (f u) ≤ k → Slot n u → older f s u ≡ true → (v : ℕ) × Slot n v × (older f s v ≡ true) × (may_take f n v ≡ true))
          → (u : ℕ) × Slot n u × (older f s u ≡ true) × (may_take f n u ≡ true)
      next (of_highest a e) ih = absurd (omega (arith, older_below f s t o, highest_valid_above f n s i r, e))
      next (has_older a b u y d) ih =
          ih u (omega (arith, older_below f t u d)) y
          (is_older f s u (older_record f t u d) (older_key f t u d ∙ older_key f s t o) (omega (arith, older_below f t u d, older_below f s t o)))

      go : (b : Bool) → may_take f n t ≡ b
          → ((u : ℕ) → highest_whole_in (f u) ≤ k → Slot n u → older f s u ≡ true → (v : ℕ) × Slot n v × (older f s v ≡ true) × (may_take f n v ≡ true))
          → (u : ℕ) × Slot n u × (older f s u ≡ true) × (may_take f n u ≡ true)
      go true e ih = (t, j, o, e)
      go false e ih = next (barred f n t j e) ih

  -- where each older record that may be taken was, the tests are the same
  pub after_same : (chosen : List ℕ) (x : ℕ) → ((t : ℕ) → In t chosen → Slot n t) → Slot n x
      → ((t : ℕ) → Slot n t → older f x t ≡ true → may_take f n t ≡ true → is_remove (f x) ≡ true → In t chosen)
      → may_take_after f n chosen x ≡ may_take f n x
  unfolding may_take_after may_take takeable_if
  after_same chosen x within i covers = go (is_record (f x)) refl (is_remove (f x)) refl
    where
      there : (t : ℕ) → Slot n t → older f x t ≡ true → (any_of (older f x) 1 n ≡ true) ⊎ (any_of (older f x) 1 n ≡ false) → any_of (older f x) 1 n ≡ true
      there t j o (inl e) = e
      there t j o (inr z) = absurd (true-false o (any_none_slot (older f x) n z t j))

      some : is_record (f x) ≡ true → is_remove (f x) ≡ true → Passing (older f x) n → any_of (older f x) 1 n ≡ true → any_in (older f x) chosen ≡ true
      some r m (passes t j o) e =
          let u = older_takeable x i r (highest_whole_in (f t)) t (omega arith) j o in
          in_any (older f x) u.0 chosen (covers u.0 u.1 u.2 u.3 m) u.2
      some r m (none_passes h) e = absurd (true-false e (any_clear_slot (older f x) n h))

      same : is_record (f x) ≡ true → is_remove (f x) ≡ true → any_in (older f x) chosen ≡ any_of (older f x) 1 n
      same r m =
          same_test (any_in (older f x) chosen) (any_of (older f x) 1 n)
          (λ e.
          let t = any-in (older f x) chosen e in
          there t.0 (within t.0 t.1) t.2 (split (any_of (older f x) 1 n)))
          (some r m (passing (older f x) n))

      go : (a : Bool) → is_record (f x) ≡ a → (b : Bool) → is_remove (f x) ≡ b
          → cond (is_record (f x)) (ltb (highest_whole_in (f x)) (highest_valid f n) && not (is_remove (f x) && any_in (older f x) chosen)) true
          ≡ cond (is_record (f x)) (ltb (highest_whole_in (f x)) (highest_valid f n) && not (is_remove (f x) && any_of (older f x) 1 n)) true
      go false r b m = rw r refl
      go true r false m = rw m refl
      go true r true m = by_older x _ _ (same r m)

  -- what may be taken may be taken after any others
  pub may_after : (chosen : List ℕ) → ((t : ℕ) → In t chosen → Slot n t) → (x : ℕ) → may_take f n x ≡ true → may_take_after f n chosen x ≡ true
  unfolding may_take_after may_take takeable_if
  may_after chosen within x e =
      go (is_record (f x)) (ltb (highest_whole_in (f x)) (highest_valid f n)) (is_remove (f x)) (any_in (older f x) chosen) refl (any_of (older f x) 1 n) refl e
    where
      go : (a b c d : Bool) → any_in (older f x) chosen ≡ d → (k : Bool) → any_of (older f x) 1 n ≡ k → cond a (b && not (c && k)) true ≡ true
          → cond a (b && not (c && d)) true ≡ true
      go false b c d y k z q = refl
      go true false c d y k z q = q
      go true true false d y k z q = q
      go true true true false y k z q = refl
      go true true true true y true z q = q
      go true true true true y false z q =
          let t = any-in (older f x) chosen y in absurd (true-false t.2 (any_none_slot (older f x) n z t.0 (within t.0 t.1)))
