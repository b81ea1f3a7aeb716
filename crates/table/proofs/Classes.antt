-- The classes of slots: the rank of an empty one, and how many slots are of each class. Assumes nothing.
use mathlib.Core.Path.{◌≡◌, refl}
use mathlib.Core.Bool.{cond}
use Prim.Native.Nat.{ℕ, zero, suc, ◌+◌}
use native.Mathlib.Omega.{arith}
use lib.Dec.{eqb}
use borrow.Author.Tests.{ne_eqb}
use Rattle.layout.specs.Content.{Content, broken, empty, put_record, remove_record, Table}
use Rattle.prelude.specs.Range.{count}
use Rattle.table.specs.Table.{is_broken, broken_count}
use Rattle.table.specs.Order.{rank_of}
use Rattle.table.specs.Class.{is_empty, is_put}
use Rattle.table.specs.Takeable.{is_remove}

-- the rank of an empty slot is 1, and that of no other
pub rank_empty : (c : Content) → eqb (rank_of c) 1 ≡ is_empty c
unfolding rank_of is_empty
rank_empty (broken top) = refl
rank_empty empty = refl
rank_empty (put_record version key value) = ne_eqb (rank_of (put_record version key value)) 1 (λ e. omega arith)
rank_empty (remove_record version key) = ne_eqb (rank_of (remove_record version key)) 1 (λ e. omega arith)

-- each slot is of one class
pub classes_add : (f : Table) (n : ℕ)
    → broken_count f n + count (λ s. is_empty (f s)) n + count (λ s. is_put (f s)) n + count (λ s. is_remove (f s)) n ≡ n
unfolding broken_count count is_broken is_empty is_put is_remove
classes_add f zero = refl
classes_add f (suc n) = go (f (suc n)) _ _ _ _ (classes_add f n)
  where
    go : (c : Content) (b e p r : ℕ) → b + e + p + r ≡ n
        → cond (is_broken c) (suc b) b + cond (is_empty c) (suc e) e + cond (is_put c) (suc p) p + cond (is_remove c) (suc r) r ≡ suc n
    go (broken top) b e p r h = omega arith
    go empty b e p r h = omega arith
    go (put_record version key value) b e p r h = omega arith
    go (remove_record version key) b e p r h = omega arith
