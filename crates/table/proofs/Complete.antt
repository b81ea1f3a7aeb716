-- The highest complete version, the void slots and the settled table. Assumes nothing.
use mathlib.Core.Path.{◌≡◌, refl, sym, ap}
use mathlib.Core.Bool.{Bool, true, false, cond, ◌&&◌}
use Prim.Native.Nat.{ℕ, suc, ◌≤◌, ◌<◌}
use native.Mathlib.Omega.{arith}
use lib.Dec.{eqb, ltb}
use borrow.Author.Tests.{eqb-true, ne_eqb, eq-eqb, leb-true, le-leb, ltb-true, lt-ltb, ltb-false}
use Rattle.layout.specs.Content.{Table, highest_whole_in, Content, broken}
use Rattle.prelude.specs.Members.{Slot}
use Rattle.prelude.specs.Range.{topmost}
use Rattle.prelude.proofs.Choice.{pick_false, both, both_left, both_right, pick_true, is_false, true-false}
use Rattle.prelude.proofs.Count.{count_same}
use Rattle.prelude.proofs.Most.{greatest_above, greatest_least, first_is, First, nowhere, there, greatest_same}
use Rattle.table.specs.Complete.{size_field_for, basket_size, has_version, sharers, SizeFields, complete, highest_complete, version_if_complete, is_void}
use Rattle.table.specs.Complete.{settled}
use Rattle.table.specs.Table.{is_record, next_version}

-- a number says as many as the basket that it is for
pub said_for : (m : ℕ) → 0 < m → basket_size (size_field_for m) ≡ m
unfolding basket_size size_field_for
said_for m h = go (eqb m 1) refl
  where
    go : (b : Bool) → eqb m 1 ≡ b → cond (eqb (cond b 0 m) 0) 1 (cond b 0 m) ≡ m
    go true e = sym (eqb-true m 1 e)
    go false e = pick_false (eqb m 0) 1 m (ne_eqb m 0 (λ z. omega arith))

-- the slots of a version
module _ (f : Table) where
  pub has-version : (v t : ℕ) → is_record (f t) ≡ true → highest_whole_in (f t) ≡ v → has_version f v t ≡ true
  unfolding has_version
  has-version v t c e = both (is_record (f t)) _ c (eq-eqb (highest_whole_in (f t)) v e)

  pub version_record : (v t : ℕ) → has_version f v t ≡ true → is_record (f t) ≡ true
  unfolding has_version
  version_record v t e = both_left (is_record (f t)) _ e

  pub version_top : (v t : ℕ) → has_version f v t ≡ true → highest_whole_in (f t) ≡ v
  unfolding has_version
  version_top v t e = eqb-true (highest_whole_in (f t)) v (both_right (is_record (f t)) _ e)

-- a slot with the same content has the same version
pub version_same : (f f' : Table) (v t : ℕ) → f' t ≡ f t → has_version f' v t ≡ has_version f v t
unfolding has_version
version_same f f' v t e = ap (λ (c : Content). is_record c && eqb (highest_whole_in c) v) e

pub sharers_same : (f f' : Table) (n v : ℕ) → ((t : ℕ) → Slot n t → has_version f' v t ≡ has_version f v t) → sharers f' n v ≡ sharers f n v
unfolding sharers
sharers_same f f' n v h = count_same (has_version f' v) (has_version f v) n h

module _ (f : Table) (num : SizeFields) (n : ℕ) where
  pub complete_enough : (s : ℕ) → complete f num n s ≡ true → basket_size (num s) ≤ sharers f n (highest_whole_in (f s))
  unfolding complete
  complete_enough s e = leb-true (basket_size (num s)) (sharers f n (highest_whole_in (f s))) (both_right (is_record (f s)) _ e)

  pub complete_record : (s : ℕ) → complete f num n s ≡ true → is_record (f s) ≡ true
  unfolding complete
  complete_record s e = both_left (is_record (f s)) _ e

  pub complete_is : (s : ℕ) → is_record (f s) ≡ true → basket_size (num s) ≤ sharers f n (highest_whole_in (f s)) → complete f num n s ≡ true
  unfolding complete
  complete_is s c l = both (is_record (f s)) _ c (le-leb (basket_size (num s)) (sharers f n (highest_whole_in (f s))) l)

  -- every complete version is at most the highest one
  pub highest_complete_above : (s : ℕ) → Slot n s → complete f num n s ≡ true → highest_whole_in (f s) ≤ highest_complete f num n
  unfolding highest_complete version_if_complete
  highest_complete_above s i e =
      omega (arith, greatest_above (version_if_complete f num n) n s i, pick_true (complete f num n s) (highest_whole_in (f s)) 0 e)

  -- which is no more than what bounds them
  pub highest_complete_least : (m : ℕ) → ((s : ℕ) → Slot n s → complete f num n s ≡ true → highest_whole_in (f s) ≤ m) → highest_complete f num n ≤ m
  unfolding highest_complete version_if_complete
  highest_complete_least m h = greatest_least (version_if_complete f num n) n m (λ t i. go t i (complete f num n t) refl)
    where
      go : (t : ℕ) → Slot n t → (b : Bool) → complete f num n t ≡ b → version_if_complete f num n t ≤ m
      go t i true e = omega (arith, pick_true (complete f num n t) (highest_whole_in (f t)) 0 e, h t i e)
      go t i false e = omega (arith, pick_false (complete f num n t) (highest_whole_in (f t)) 0 e)

  -- and is 0 or the version of a complete slot
  pub data HighestComplete : Type 0 where
    none_complete : highest_complete f num n ≡ 0 → HighestComplete
    completed : (s : ℕ) → Slot n s → complete f num n s ≡ true → highest_whole_in (f s) ≡ highest_complete f num n → HighestComplete

  pub highest_complete_is : HighestComplete
  unfolding highest_complete version_if_complete
  highest_complete_is = go (first_is (version_if_complete f num n) n)
    where
      go : First (version_if_complete f num n) n (topmost (version_if_complete f num n) n) → HighestComplete
      go (nowhere e h) = none_complete (omega (arith, greatest_least (version_if_complete f num n) n 0 (λ t i. omega (arith, h t i))))
      go (there i p h b) = at (topmost (version_if_complete f num n) n) i p h (complete f num n (topmost (version_if_complete f num n) n)) refl
        where
          at : (s : ℕ) → Slot n s → 0 < version_if_complete f num n s → ((t : ℕ) → Slot n t → version_if_complete f num n t ≤ version_if_complete f num n s)
              → (b : Bool) → complete f num n s ≡ b → HighestComplete
          at s i p h true e =
              completed s i e (omega (
                arith,
                pick_true (complete f num n s) (highest_whole_in (f s)) 0 e,
                greatest_above (version_if_complete f num n) n s i,
                greatest_least (version_if_complete f num n) n (version_if_complete f num n s) h,
              ))
          at s i p h false e = absurd (omega (arith, pick_false (complete f num n s) (highest_whole_in (f s)) 0 e))

  -- the void slots
  pub void_above : (s : ℕ) → is_void f num n s ≡ true → highest_complete f num n < highest_whole_in (f s)
  unfolding is_void
  void_above s e = ltb-true (highest_complete f num n) (highest_whole_in (f s)) (both_right (is_record (f s)) _ e)

  pub void_record : (s : ℕ) → is_void f num n s ≡ true → is_record (f s) ≡ true
  unfolding is_void
  void_record s e = both_left (is_record (f s)) _ e

  pub void_is : (s : ℕ) → is_record (f s) ≡ true → highest_complete f num n < highest_whole_in (f s) → is_void f num n s ≡ true
  unfolding is_void
  void_is s c l = both (is_record (f s)) _ c (lt-ltb (highest_complete f num n) (highest_whole_in (f s)) l)

  pub not_void : (s : ℕ) → (is_record (f s) ≡ true → highest_whole_in (f s) ≤ highest_complete f num n) → is_void f num n s ≡ false
  not_void s h = is_false (is_void f num n s) (λ e. omega (arith, void_above s e, h (void_record s e)))

  pub not_void_below : (s : ℕ) → is_void f num n s ≡ false → is_record (f s) ≡ true → highest_whole_in (f s) ≤ highest_complete f num n
  not_void_below s e c = go (ltb (highest_complete f num n) (highest_whole_in (f s))) refl
    where
      go : (b : Bool) → ltb (highest_complete f num n) (highest_whole_in (f s)) ≡ b → highest_whole_in (f s) ≤ highest_complete f num n
      go true l = absurd (true-false (void_is s c (ltb-true (highest_complete f num n) (highest_whole_in (f s)) l)) e)
      go false l = ltb-false (highest_complete f num n) (highest_whole_in (f s)) l

  -- the settled table
  pub settled_void : (s : ℕ) → is_void f num n s ≡ true → settled f num n s ≡ broken (highest_whole_in (f s))
  unfolding settled
  settled_void s e = pick_true (is_void f num n s) _ _ e

  pub settled_same : (s : ℕ) → is_void f num n s ≡ false → settled f num n s ≡ f s
  unfolding settled
  settled_same s e = pick_false (is_void f num n s) _ _ e

  -- "lines of broken slots included", and those of void ones
  pub settled_top : (s : ℕ) → highest_whole_in (settled f num n s) ≡ highest_whole_in (f s)
  unfolding highest_whole_in
  settled_top s = go (is_void f num n s) refl
    where
      go : (b : Bool) → is_void f num n s ≡ b → highest_whole_in (settled f num n s) ≡ highest_whole_in (f s)
      go true e = ap highest_whole_in (settled_void s e)
      go false e = ap highest_whole_in (settled_same s e)

-- THE NEXT VERSION is that of the settled table: void lines count
pub settled_next : (f : Table) (num : SizeFields) (n : ℕ) → next_version (settled f num n) n ≡ next_version f n
unfolding next_version
settled_next f num n = ap suc (greatest_same (λ s. highest_whole_in (settled f num n s)) (λ s. highest_whole_in (f s)) n (λ s i. settled_top f num n s))
