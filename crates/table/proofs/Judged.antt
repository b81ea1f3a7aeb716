-- The judging word for word ends at the highest complete version. Assumes nothing.
use mathlib.Core.Path.{◌≡◌, refl}
use mathlib.Core.Bool.{Bool, true, false, cond, ◌&&◌}
use Prim.Native.Nat.{ℕ, zero, suc, ◌≤◌, ◌<◌}
use native.Mathlib.Omega.{arith}
use lib.Dec.{ltb, eqb}
use borrow.Author.Tests.{lt-ltb, ltb-true, eqb-true, eqb-false}
use Rattle.layout.specs.Content.{Table, highest_whole_in}
use Rattle.prelude.specs.Members.{Slot}
use Rattle.prelude.proofs.Any.{passing, Passing, passes, none_passes, any_clear_slot, any_none_slot}
use Rattle.prelude.proofs.Choice.{true-false, both, pick_true, both_right, pick_false, both_left}
use Rattle.prelude.proofs.Most.{greatest_above, greatest_least}
use Rattle.table.specs.Complete.{SizeFields, complete, complete_at, has_version, next_down, judged, highest_complete}
use Rattle.table.specs.Table.{is_record}
use Rattle.table.specs.Takeable.{highest_valid}
use Rattle.table.proofs.Complete.{has-version, complete_record, version_top, highest_complete_above, highest_complete_least}
use Rattle.table.proofs.Takeable.{highest_valid_above}

module _ (f : Table) (num : SizeFields) (n : ℕ) where
  -- version v is complete: some slot of it is
  complete-at : (v : ℕ) → complete_at f num n v ≡ true → (s : ℕ) × Slot n s × (has_version f v s && complete f num n s ≡ true)
  unfolding complete_at
  complete-at v e = go (passing (λ s. has_version f v s && complete f num n s) n)
    where
      go : Passing (λ s. has_version f v s && complete f num n s) n → (s : ℕ) × Slot n s × (has_version f v s && complete f num n s ≡ true)
      go (passes s i q) = (s, i, q)
      go (none_passes h) = absurd (true-false e (any_clear_slot (λ s. has_version f v s && complete f num n s) n h))

  incomplete_at : (v : ℕ) → complete_at f num n v ≡ false → (s : ℕ) → Slot n s → complete f num n s ≡ true → highest_whole_in (f s) ≡ v → ⊥
  unfolding complete_at
  incomplete_at v e s i c q =
      true-false (both (has_version f v s) _ (has-version f v s (complete_record f num n s c) q) c)
      (any_none_slot (λ t. has_version f v t && complete f num n t) n e s i)

  abbrev low : ℕ → ℕ → ℕ
  low v s = cond (is_record (f s) && ltb (highest_whole_in (f s)) v) (highest_whole_in (f s)) 0

  down_above : (v s : ℕ) → Slot n s → is_record (f s) ≡ true → highest_whole_in (f s) < v → highest_whole_in (f s) ≤ next_down f n v
  unfolding next_down
  down_above v s i c l =
      omega (
        arith,
        greatest_above (low v) n s i,
        pick_true (is_record (f s) && ltb (highest_whole_in (f s)) v) (highest_whole_in (f s)) 0
            (both (is_record (f s)) _ c (lt-ltb (highest_whole_in (f s)) v l)),
      )

  down_below : (v : ℕ) → 0 < v → next_down f n v < v
  unfolding next_down
  down_below (suc v) p = omega (arith, greatest_least (low (suc v)) n v (λ t i. go t (is_record (f t) && ltb (highest_whole_in (f t)) (suc v)) refl))
    where
      go : (t : ℕ) → (x : Bool) → is_record (f t) && ltb (highest_whole_in (f t)) (suc v) ≡ x → low (suc v) t ≤ v
      go t true e =
          omega (
            arith,
            pick_true (is_record (f t) && ltb (highest_whole_in (f t)) (suc v)) (highest_whole_in (f t)) 0 e,
            ltb-true (highest_whole_in (f t)) (suc v) (both_right (is_record (f t)) _ e),
          )
      go t false e = omega (arith, pick_false (is_record (f t) && ltb (highest_whole_in (f t)) (suc v)) (highest_whole_in (f t)) 0 e)
  down_below zero p = absurd (omega arith)

  turns : (fuel v : ℕ) → v < fuel → ((s : ℕ) → Slot n s → complete f num n s ≡ true → highest_whole_in (f s) ≤ v)
      → judged f num n fuel v ≡ highest_complete f num n
  unfolding judged
  turns zero v l h = absurd (omega arith)
  turns (suc fuel) v l h = go (eqb v 0) refl (complete_at f num n v) refl (turns fuel (next_down f n v))
    where
      top : complete_at f num n v ≡ true → v ≤ highest_complete f num n
      top e =
          let a = complete-at v e in
          omega (
            arith,
            version_top f v a.0 (both_left (has_version f v a.0) _ a.2),
            highest_complete_above f num n a.0 a.1
                (both_right (has_version f v a.0) _ a.2),
          )

      less : complete_at f num n v ≡ false → (s : ℕ) → Slot n s → complete f num n s ≡ true → highest_whole_in (f s) ≤ next_down f n v
      less e s i c = down_above v s i (complete_record f num n s c) (omega (arith, h s i c, incomplete_at v e s i c))

      go : (x : Bool) → eqb v 0 ≡ x → (y : Bool) → complete_at f num n v ≡ y
          → (next_down f n v < fuel → ((s : ℕ) → Slot n s → complete f num n s ≡ true → highest_whole_in (f s) ≤ next_down f n v)
          → judged f num n fuel (next_down f n v) ≡ highest_complete f num n)
          → cond x 0 (cond y v (judged f num n fuel (next_down f n v))) ≡ highest_complete f num n
      go true e y d ih = let z = eqb-true v 0 e in omega (arith, highest_complete_least f num n v h)
      go false e true d ih = omega (arith, highest_complete_least f num n v h, top d)
      go false e false d ih = ih (omega (arith, down_below v (omega (arith, eqb-false v 0 e)))) (less d)

  -- FROM THE HIGHEST VALID VERSION DOWN, to the first complete one: the highest complete version
  pub judged_highest : judged f num n (suc (highest_valid f n)) (highest_valid f n) ≡ highest_complete f num n
  judged_highest = turns (suc (highest_valid f n)) (highest_valid f n) (omega arith) (λ s i c. highest_valid_above f n s i (complete_record f num n s c))
