-- Void slots and the sharers of a version by rank. Assumes nothing.
use mathlib.Core.Path.{◌≡◌, refl, sym, ap, ◌∙◌}
use mathlib.Core.Bool.{Bool, true, false, cond}
use Prim.Native.Nat.{ℕ, ◌+◌, ◌<◌}
use native.Mathlib.Omega.{arith}
use lib.Dec.{ltb}
use borrow.Author.Tests.{lt-ltb, ltb-true}
use Rattle.layout.specs.Content.{Content, highest_whole_in, broken, empty, put_record, remove_record, Table}
use Rattle.prelude.proofs.Choice.{true-false, same_test, pick_true, pick_false}
use Rattle.table.specs.Complete.{SizeFields, has_version, is_void, highest_complete, settled}
use Rattle.table.specs.Order.{rank_of}
use Rattle.table.specs.Table.{is_record}
use Rattle.table.proofs.Complete.{version_record, version_top, has-version, void_record, void_above, void_is, settled_void, settled_same}

rank_is : (c : Content) (v : ℕ) → rank_of c ≡ 2 + v → (is_record c ≡ true) × (highest_whole_in c ≡ v)
unfolding rank_of is_record highest_whole_in
rank_is (broken t) v e = absurd (omega arith)
rank_is empty v e = absurd (omega arith)
rank_is (put_record w k x) v e = (refl, omega arith)
rank_is (remove_record w k) v e = (refl, omega arith)

-- the rank of a record, and of what is none
pub record_rank : (c : Content) → is_record c ≡ true → rank_of c ≡ 2 + highest_whole_in c
unfolding rank_of is_record highest_whole_in
record_rank (broken t) e = absurd (true-false e refl)
record_rank empty e = absurd (true-false e refl)
record_rank (put_record w k x) e = refl
record_rank (remove_record w k) e = refl

pub low_rank : (c : Content) → is_record c ≡ false → rank_of c < 2
unfolding rank_of is_record
low_rank (broken t) e = omega arith
low_rank empty e = omega arith
low_rank (put_record w k x) e = absurd (true-false refl e)
low_rank (remove_record w k) e = absurd (true-false refl e)

-- the sharers of a version are the slots of one rank
pub sharer_rank : (f : Table) (v s : ℕ) → has_version f v s ≡ true → rank_of (f s) ≡ 2 + v
sharer_rank f v s e = record_rank (f s) (version_record f v s e) ∙ ap (λ (x : ℕ). 2 + x) (version_top f v s e)

pub rank_sharer : (f : Table) (v s : ℕ) → rank_of (f s) ≡ 2 + v → has_version f v s ≡ true
rank_sharer f v s e = let r = rank_is (f s) v e in has-version f v s r.0 r.1

-- the void slots are those of a rank above
pub void_rank : (f : Table) (num : SizeFields) (n s : ℕ) → is_void f num n s ≡ ltb (2 + highest_complete f num n) (rank_of (f s))
unfolding rank_of
void_rank f num n s = same_test _ _ forth back
  where
    forth : is_void f num n s ≡ true → ltb (2 + highest_complete f num n) (rank_of (f s)) ≡ true
    forth e =
        lt-ltb (2 + highest_complete f num n) (rank_of (f s)) (omega (arith, record_rank (f s) (void_record f num n s e), void_above f num n s e))

    back : ltb (2 + highest_complete f num n) (rank_of (f s)) ≡ true → is_void f num n s ≡ true
    back e = go (is_record (f s)) refl
      where
        high : 2 + highest_complete f num n < rank_of (f s)
        high = ltb-true (2 + highest_complete f num n) (rank_of (f s)) e

        go : (x : Bool) → is_record (f s) ≡ x → is_void f num n s ≡ true
        go true c = void_is f num n s c (omega (arith, record_rank (f s) c, high))
        go false c = absurd (omega (arith, high, low_rank (f s) c))

-- and in the settled table their rank is that of broken slots
pub settled_rank : (f : Table) (num : SizeFields) (n s : ℕ) → rank_of (settled f num n s)
    ≡ cond (ltb (2 + highest_complete f num n) (rank_of (f s))) 0 (rank_of (f s))
unfolding rank_of
settled_rank f num n s = go (is_void f num n s) refl
  where
    go : (x : Bool) → is_void f num n s ≡ x → rank_of (settled f num n s) ≡ cond (ltb (2 + highest_complete f num n) (rank_of (f s))) 0 (rank_of (f s))
    go true e =
        ap rank_of (settled_void f num n s e)
        ∙ sym (pick_true (ltb (2 + highest_complete f num n) (rank_of (f s))) 0 (rank_of (f s)) (sym (void_rank f num n s) ∙ e))
    go false e =
        ap rank_of (settled_same f num n s e)
        ∙ sym (pick_false (ltb (2 + highest_complete f num n) (rank_of (f s))) 0 (rank_of (f s)) (sym (void_rank f num n s) ∙ e))
