-- Broken slots: how many a changed slot leaves, and where they stand in reuse. Assumes nothing.
use mathlib.Core.Path.{◌≡◌, refl, sym, ap, ◌∙◌}
use mathlib.Core.Bool.{Bool, true, false, cond}
use mathlib.Core.Logic.{inl, inr, ⊎_elim}
use mathlib.Core.List.{List, [], ◌∷◌, ◌++◌}
use Prim.Native.Nat.{ℕ, ◌≤◌, ◌<◌}
use native.Mathlib.Omega.{arith}
use lib.Dec.{eqb}
use borrow.Author.Tests.{ne_eqb, le-ltb, ltb-false}
use Rattle.layout.specs.Content.{Content, broken, empty, put_record, remove_record, Table}
use Rattle.prelude.specs.Filter.{filter}
use Rattle.prelude.specs.Members.{In, Slot}
use Rattle.sorting.proofs.Order.{filter_in}
use Rattle.prelude.proofs.defs.Members.{Rising}
use Rattle.prelude.proofs.Choice.{true-false}
use Rattle.prelude.proofs.Count.{count_none}
use Rattle.prelude.proofs.Lists.{in_append}
use Rattle.table.specs.Table.{is_record, is_broken, broken_count, broken_limit, many_broken, deciding_put, live}
use Rattle.table.specs.Order.{rank_of}
use Rattle.table.specs.Reuse.{BrokenFirst}

-- ---- one slot

-- a broken slot ranks below every other
rank_lowest : (c d : Content) → is_broken c ≡ true → is_broken d ≡ false → rank_of c < rank_of d
unfolding rank_of is_broken
rank_lowest (broken top) (broken other) e h = absurd (true-false refl h)
rank_lowest (broken top) empty e h = omega arith
rank_lowest (broken top) (put_record version key value) e h = omega arith
rank_lowest (broken top) (remove_record version key) e h = omega arith
rank_lowest empty d e h = absurd (true-false e refl)
rank_lowest (put_record version key value) d e h = absurd (true-false e refl)
rank_lowest (remove_record version key) d e h = absurd (true-false e refl)

-- its rank is 0, and that of no other
pub rank_broken : (c : Content) → eqb (rank_of c) 0 ≡ is_broken c
unfolding rank_of is_broken
rank_broken (broken top) = refl
rank_broken empty = refl
rank_broken (put_record version key value) = ne_eqb (rank_of (put_record version key value)) 0 (λ e. omega arith)
rank_broken (remove_record version key) = ne_eqb (rank_of (remove_record version key)) 0 (λ e. omega arith)

-- a record is not broken
pub record_whole : (c : Content) → is_record c ≡ true → is_broken c ≡ false
unfolding is_record is_broken
record_whole (broken top) e = absurd (true-false e refl)
record_whole empty e = refl
record_whole (put_record version key value) e = refl
record_whole (remove_record version key) e = refl

-- a broken slot is not live
pub broken_idle : (f : Table) (n s : ℕ) → is_broken (f s) ≡ true → live f n s ≡ false
unfolding live deciding_put is_broken
broken_idle f n s e = go (f s) e
  where
    go : (c : Content) → is_broken c ≡ true → deciding_put f n s c ≡ false
    go (broken top) d = refl
    go empty d = refl
    go (put_record version key value) d = absurd (true-false d refl)
    go (remove_record version key) d = refl

-- ---- how many

-- 25 and the count
pub many_few : (f : Table) (n : ℕ) → many_broken f n ≡ false → broken_count f n ≤ broken_limit
unfolding many_broken
many_few f n e = ltb-false broken_limit (broken_count f n) e

pub few_many : (f : Table) (n : ℕ) → broken_count f n ≤ broken_limit → many_broken f n ≡ false
unfolding many_broken
few_many f n h = le-ltb broken_limit (broken_count f n) h

pub none_broken : (f : Table) (n : ℕ) → ((t : ℕ) → Slot n t → is_broken (f t) ≡ false) → broken_count f n ≤ broken_limit
unfolding broken_count
none_broken f n h = omega (arith, count_none (λ t. is_broken (f t)) n h)

-- ---- reuse

-- slots that are not broken may follow
pub broken_append : (f : Table) (l m : List ℕ) → BrokenFirst f l → ((t : ℕ) → In t m → is_broken (f t) ≡ false) → BrokenFirst f (l ++ m)
broken_append f [] [] b h = tt
broken_append f [] (y ∷ m) b h =
    ((λ t i e. absurd (true-false e (h t (inr i)))), broken_append f [] m tt (λ t i. h t (inr i)))
broken_append f (x ∷ l) m b h = (
  (λ t i e. ⊎_elim (λ p. b.0 t p e) (λ q. absurd (true-false e (h t q))) (in_append t l m i)),
  broken_append f l m b.1 h,
)

-- a part of the list
pub broken_filter : (f : Table) (p : ℕ → Bool) (l : List ℕ) → BrokenFirst f l → BrokenFirst f (filter p l)
unfolding filter
broken_filter f p [] b = tt
broken_filter f p (x ∷ l) b = go (p x) (broken_filter f p l b.1)
  where
    go : (c : Bool) → BrokenFirst f (filter p l) → BrokenFirst f (cond c (x ∷ filter p l) (filter p l))
    go true ih = ((λ t i e. b.0 t (filter_in p t l i) e), ih)
    go false ih = ih

-- a table that is the same at these slots
pub broken_carry : (f f' : Table) (l : List ℕ) → ((x : ℕ) → In x l → f' x ≡ f x) → BrokenFirst f l → BrokenFirst f' l
broken_carry f f' [] h b = tt
broken_carry f f' (x ∷ l) h b = (
  (λ t i e. ap is_broken (h x (inl refl)) ∙ b.0 t i (sym (ap is_broken (h t (inr i))) ∙ e)),
  broken_carry f f' l (λ t i. h t (inr i)) b.1,
)

-- slots by rising rank have the broken ones first
pub rising_broken : (f : Table) (l : List ℕ) → Rising (λ t. rank_of (f t)) l → BrokenFirst f l
rising_broken f [] r = tt
rising_broken f (x ∷ l) r = (first, rising_broken f l r.1)
  where
    first : (t : ℕ) → In t l → is_broken (f t) ≡ true → is_broken (f x) ≡ true
    first t i e = go (is_broken (f x)) refl
      where
        go : (b : Bool) → is_broken (f x) ≡ b → is_broken (f x) ≡ true
        go true d = d
        go false d = absurd (omega (arith, r.0 t i, rank_lowest (f t) (f x) e d))
