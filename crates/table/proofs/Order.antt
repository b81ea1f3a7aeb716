-- Recovery's orders, with ties by slot number. Assumes nothing.
use mathlib.Core.Bool.{◌&&◌}
use Prim.Native.Nat.{ℕ}
use lib.Dec.{eqb}
use Rattle.layout.specs.Content.{Table}
use Rattle.prelude.specs.Filter.{filter}
use Rattle.prelude.specs.Members.{slot_numbers}
use Rattle.prelude.proofs.Lists.{strict_slots}
use Rattle.table.specs.Order.{rank_of, reuse_of, ordered, chain_of}
use Rattle.table.specs.Table.{spare, live, key_in}
use Rattle.sorting.specs.Lex.{Lex}
use Rattle.sorting.proofs.Lex.{lex_sorted, strict_filter}

pub chain_lex : (f : Table) (n : ℕ) (head : ℕ → ℕ) (h : ℕ) → Lex (λ t. rank_of (f t)) (chain_of f n head h)
unfolding chain_of ordered
chain_lex f n head h =
    lex_sorted (λ t. rank_of (f t)) (filter (λ s. live f n s && eqb (head (key_in (f s))) h) (slot_numbers n))
    (strict_filter (λ s. live f n s && eqb (head (key_in (f s))) h) (slot_numbers n) (strict_slots n))

pub reuse_lex : (f : Table) (n : ℕ) → Lex (λ t. rank_of (f t)) (reuse_of f n)
unfolding reuse_of ordered
reuse_lex f n = lex_sorted (λ t. rank_of (f t)) (filter (spare f n) (slot_numbers n)) (strict_filter (spare f n) (slot_numbers n) (strict_slots n))
