-- Recovery's reuse and chains. Assumes nothing.
use mathlib.Core.Path.{◌≡◌, refl, ap}
use mathlib.Core.Bool.{Bool, not, ◌&&◌}
use Prim.Native.Nat.{ℕ, suc, ◌<◌}
use native.Mathlib.Omega.{arith}
use lib.Dec.{eqb}
use borrow.Author.Tests.{eqb-true, eq-eqb, not-true}
use Rattle.layout.specs.Content.{Content, Table}
use Rattle.prelude.specs.Filter.{filter}
use Rattle.prelude.specs.Members.{In, slot_numbers}
use Rattle.prelude.proofs.defs.Members.{Rising}
use Rattle.sorting.proofs.Order.{sorted_in, in_sorted, rising_sorted, filter_in, in_filter, filter_holds, once_sorted, once_filter}
use Rattle.table.specs.Table.{key_in, rank_for_key, live, spare}
use Rattle.table.specs.Order.{rank_of, ordered, chain_of, reuse_of}
use Rattle.table.proofs.defs.Reuse.{Spares}
use Rattle.table.specs.Reuse.{BrokenFirst}
use Rattle.table.proofs.Broken.{rising_broken}
use Rattle.table.proofs.defs.Chains.{Chains}
use Rattle.table.proofs.OneSlot.{puts, Says, weight_put, weight_remove, removes, says}
use Rattle.prelude.proofs.Choice.{both_left, both_right, both}
use Rattle.prelude.proofs.Lists.{once_slots, in_slots, slots-in}

-- recovery's reuse holds the spare slots
pub recovery_spares : (f : Table) (n : ℕ) → Spares f n (reuse_of f n)
unfolding reuse_of ordered spare
recovery_spares f n = record {
  slot = λ t i. slots-in n t (filter_in (spare f n) t (slot_numbers n) (kept t i));
  idle = λ t i. not-true (live f n t) (filter_holds (spare f n) t (slot_numbers n) (kept t i));
  all = λ t i e. in_sorted (λ x. rank_of (f x)) t (filter (spare f n) (slot_numbers n)) (in_filter (spare f n) t (slot_numbers n) (in_slots n t i) (ap not e));
  once = once_sorted (λ x. rank_of (f x)) (filter (spare f n) (slot_numbers n)) (once_filter (spare f n) (slot_numbers n) (once_slots n));
}
  where
    kept : (t : ℕ) → In t (reuse_of f n) → In t (filter (spare f n) (slot_numbers n))
    kept t i = sorted_in (λ x. rank_of (f x)) t (filter (spare f n) (slot_numbers n)) i

pub rank_weight : (k : ℕ) (c : Content) → 0 < rank_for_key k c → rank_of c ≡ suc (rank_for_key k c)
unfolding rank_of
rank_weight k c p = go (says k c p)
  where
    go : Says k c → rank_of c ≡ suc (rank_for_key k c)
    go (puts w v e) = omega (arith, ap rank_of e, ap (rank_for_key k) e, weight_put w k v)
    go (removes w e) = omega (arith, ap rank_of e, ap (rank_for_key k) e, weight_remove w k)

-- recovery's reuse never falls in rank: broken slots, empty slots, then by version
pub recovery_rising : (f : Table) (n : ℕ) → Rising (λ t. rank_of (f t)) (reuse_of f n)
unfolding reuse_of ordered
recovery_rising f n = rising_sorted (λ t. rank_of (f t)) (filter (spare f n) (slot_numbers n))

-- and the broken slots
pub recovery_broken : (f : Table) (n : ℕ) → BrokenFirst f (reuse_of f n)
recovery_broken f n = rising_broken f (reuse_of f n) (recovery_rising f n)

-- slot t is live and its key belongs to head i
abbrev chosen : Table → ℕ → (ℕ → ℕ) → ℕ → ℕ → Bool
chosen f n head i t = live f n t && eqb (head (key_in (f t))) i

-- recovery's chains hold the live slots by their key's head
pub recovery_chains : (f : Table) (n : ℕ) (head : ℕ → ℕ) → Chains f n head (chain_of f n head)
unfolding chain_of ordered
recovery_chains f n head = record {
  slot = λ i t j. slots-in n t (filter_in (chosen f n head i) t (slot_numbers n) (kept i t j));
  alive = λ i t j. both_left (live f n t) (eqb (head (key_in (f t))) i) (filter_holds (chosen f n head i) t (slot_numbers n) (kept i t j));
  in_head = λ i t j. eqb-true (head (key_in (f t))) i
      (both_right (live f n t) (eqb (head (key_in (f t))) i) (filter_holds (chosen f n head i) t (slot_numbers n) (kept i t j)));
  all = λ t j l. in_sorted (λ x. rank_of (f x)) t (filter (chosen f n head (head (key_in (f t)))) (slot_numbers n))
      (in_filter (chosen f n head (head (key_in (f t)))) t (slot_numbers n) (in_slots n t j)
      (both (live f n t) (eqb (head (key_in (f t))) (head (key_in (f t)))) l (eq-eqb (head (key_in (f t))) (head (key_in (f t))) refl)));
  once = λ i. once_sorted (λ t. rank_of (f t)) (filter (chosen f n head i) (slot_numbers n)) (once_filter (chosen f n head i) (slot_numbers n) (once_slots n));
}
  where
    kept : (i t : ℕ) → In t (chain_of f n head i) → In t (filter (chosen f n head i) (slot_numbers n))
    kept i t j = sorted_in (λ x. rank_of (f x)) t (filter (chosen f n head i) (slot_numbers n)) j
