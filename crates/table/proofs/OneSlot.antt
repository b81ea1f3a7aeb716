-- Small facts of one slot's content and of a table with one slot changed. Assumes nothing.
use mathlib.Core.Path.{◌≡◌, refl, ap}
use mathlib.Core.Bool.{Bool, true, false, cond}
use mathlib.Core.List.{List}
use Prim.Native.Nat.{ℕ, zero, suc, ◌≤◌, ◌<◌}
use native.Mathlib.Omega.{arith}
use lib.Dec.{eqb}
use borrow.Author.Tests.{eqb-true, eq-eqb, ne_eqb}
use Rattle.layout.specs.Content.{Content, broken, empty, put_record, remove_record, highest_whole_in, Table}
use Rattle.table.specs.Table.{is_record, key_in, rank_for_key, value_in, value_at}
use Rattle.prelude.specs.Members.{Slot}
use Rattle.prelude.proofs.Choice.{pick_true, true-false}
use Rattle.table.proofs.defs.Write.{upd}

-- the record of key k that a slot holds
pub data Says (k : ℕ) (c : Content) : Type 0 where
  puts : (w : ℕ) (v : List ℕ) → c ≡ put_record w k v → Says k c
  removes : (w : ℕ) → c ≡ remove_record w k → Says k c

-- a slot that says something of key k holds a record of it
pub says : (k : ℕ) (c : Content) → 0 < rank_for_key k c → Says k c
unfolding rank_for_key
says k (broken t) h = absurd (omega arith)
says k empty h = absurd (omega arith)
says k (put_record w j v) h = go (eqb j k) refl h
  where
    go : (b : Bool) → eqb j k ≡ b → 0 < cond b (suc w) 0 → Says k (put_record w j v)
    go true e l = puts w v (ap (λ (i : ℕ). put_record w i v) (eqb-true j k e))
    go false e l = absurd (omega arith)
says k (remove_record w j) h = go (eqb j k) refl h
  where
    go : (b : Bool) → eqb j k ≡ b → 0 < cond b (suc w) 0 → Says k (remove_record w j)
    go true e l = removes w (ap (λ (i : ℕ). remove_record w i) (eqb-true j k e))
    go false e l = absurd (omega arith)

pub weight_put : (w k : ℕ) (v : List ℕ) → rank_for_key k (put_record w k v) ≡ suc w
unfolding rank_for_key
weight_put w k v = ap (λ (b : Bool). cond b (suc w) 0) (eq-eqb k k refl)

pub weight_remove : (w k : ℕ) → rank_for_key k (remove_record w k) ≡ suc w
unfolding rank_for_key
weight_remove w k = ap (λ (b : Bool). cond b (suc w) 0) (eq-eqb k k refl)

pub weight_put_other : (w j : ℕ) (v : List ℕ) (k : ℕ) → (j ≡ k → ⊥) → rank_for_key k (put_record w j v) ≡ 0
unfolding rank_for_key
weight_put_other w j v k h = ap (λ (b : Bool). cond b (suc w) 0) (ne_eqb j k h)

pub weight_remove_other : (w j k : ℕ) → (j ≡ k → ⊥) → rank_for_key k (remove_record w j) ≡ 0
unfolding rank_for_key
weight_remove_other w j k h = ap (λ (b : Bool). cond b (suc w) 0) (ne_eqb j k h)

pub weight_broken : (t k : ℕ) → rank_for_key k (broken t) ≡ 0
unfolding rank_for_key
weight_broken t k = refl

-- a slot's weight is at most one more than the highest version on a whole line of it
pub weight_top : (k : ℕ) (c : Content) → rank_for_key k c ≤ suc (highest_whole_in c)
unfolding rank_for_key highest_whole_in
weight_top k (broken t) = omega arith
weight_top k empty = omega arith
weight_top k (put_record w j v) = go (eqb j k)
  where
    go : (b : Bool) → cond b (suc w) 0 ≤ suc w
    go true = omega arith
    go false = omega arith
weight_top k (remove_record w j) = go (eqb j k)
  where
    go : (b : Bool) → cond b (suc w) 0 ≤ suc w
    go true = omega arith
    go false = omega arith

-- a slot that says something of a key is a record
pub weight_counts : (k : ℕ) (c : Content) → 0 < rank_for_key k c → is_record c ≡ true
unfolding is_record
weight_counts k c h = go (says k c h)
  where
    go : Says k c → is_record c ≡ true
    go (puts w v e) = ap is_record e
    go (removes w e) = ap is_record e

-- and its weight is one more than its version
pub weight_version : (k : ℕ) (c : Content) → 0 < rank_for_key k c → rank_for_key k c ≡ suc (highest_whole_in c)
unfolding highest_whole_in
weight_version k c h = go (says k c h)
  where
    go : Says k c → rank_for_key k c ≡ suc (highest_whole_in c)
    go (puts w v e) = rw e (weight_put w k v)
    go (removes w e) = rw e (weight_remove w k)

-- a record says nothing of a second key
pub one-key : (j k : ℕ) (c : Content) → 0 < rank_for_key j c → 0 < rank_for_key k c → j ≡ k
one-key j k c h l = go (says j c h) (says k c l)
  where
    go : Says j c → Says k c → j ≡ k
    go (puts w v e) (puts u x d) = cc
    go (puts w v e) (removes u d) = cc
    go (removes w e) (puts u x d) = cc
    go (removes w e) (removes u d) = cc

pub value-at : (f : Table) (n s : ℕ) → Slot n s → value_at f s ≡ value_in (f s)
unfolding value_at
value-at f n zero i = absurd (omega arith)
value-at f n (suc s) i = refl

pub upd_other : (f : Table) (s : ℕ) (c : Content) (t : ℕ) → (t ≡ s → ⊥) → upd f s c t ≡ f t
unfolding upd
upd_other f s c t h = ap (λ (b : Bool). cond b c (f t)) (ne_eqb t s h)

-- the key of a record
pub weight_key : (k : ℕ) (c : Content) → 0 < rank_for_key k c → key_in c ≡ k
unfolding key_in
weight_key k c h = go (says k c h)
  where
    go : Says k c → key_in c ≡ k
    go (puts w v e) = ap key_in e
    go (removes w e) = ap key_in e

-- a record says something of its key
pub record_weight : (c : Content) (k : ℕ) → is_record c ≡ true → key_in c ≡ k → rank_for_key k c ≡ suc (highest_whole_in c)
unfolding is_record key_in rank_for_key highest_whole_in
record_weight (broken t) k e d = absurd (true-false e refl)
record_weight empty k e d = absurd (true-false e refl)
record_weight (put_record w j v) k e d = pick_true (eqb j k) (suc w) 0 (eq-eqb j k d)
record_weight (remove_record w j) k e d = pick_true (eqb j k) (suc w) 0 (eq-eqb j k d)

-- what is not above 0 is 0
pub zero_or : (x : ℕ) → (0 < x → ⊥) → x ≡ 0
zero_or zero h = refl
zero_or (suc x) h = absurd (h (omega arith))

-- what is no record says nothing of any key
pub no_record_weight : (k : ℕ) (c : Content) → is_record c ≡ false → rank_for_key k c ≡ 0
no_record_weight k c e = zero_or (rank_for_key k c) (λ p. true-false (weight_counts k c p) e)

-- as a broken slot
pub broken_no_record : (c : Content) (top : ℕ) → c ≡ broken top → is_record c ≡ false
unfolding is_record
broken_no_record c top e = ap is_record e
