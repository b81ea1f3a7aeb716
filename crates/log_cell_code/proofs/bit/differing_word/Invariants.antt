-- Invariants and measures of `log_cell_code::bit::differing_word`.
use Rattle.message_log.specs.Append.{message_line}
use Rattle.message_log.proofs.Pairs.{Searching}
use Rattle.log_cell_code.proofs.bit.differing_word.Given as goal

-- `log_cell_code::bit::differing_word` meets its contract. Assumes nothing.
abbrev pub invariant-loop-place : goal.invariant-loop-place
invariant-loop-place l = Searching l.area l.n (message_line l.message l.i) l.place
