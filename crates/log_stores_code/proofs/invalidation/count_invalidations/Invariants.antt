-- Invariants and measures of `log_stores_code::invalidation::count_invalidations`.
use Rattle.words.specs.Word.{word}
use Rattle.message_log.proofs.Recoveries.{Counting}
use Rattle.log_stores_code.proofs.invalidation.count_invalidations.Given as goal

-- `log_stores_code::invalidation::count_invalidations` meets its contract. Assumes nothing.
abbrev pub invariant-loop-c : goal.invariant-loop-c
invariant-loop-c l = Counting (word l.area) l.top l.k l.count l.c
