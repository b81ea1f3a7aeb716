-- Invariants and measures of `log_cell_code::bit::nonzero_word`.
use Prim.Native.Nat.{ℕ}
use Rattle.message_log.proofs.Pairs.{Searching}
use Rattle.log_cell_code.proofs.bit.nonzero_word.Given as goal

-- `log_cell_code::bit::nonzero_word` meets its contract. Assumes nothing.
abbrev pub invariant-loop-place : goal.invariant-loop-place
invariant-loop-place l = Searching l.area l.n (λ (j : ℕ). 0) l.place
