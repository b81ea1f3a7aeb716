-- Invariants and measures of `log_stores_code::invalidation::fill_invalidations`.
use Rattle.words.specs.Word.{word}
use Rattle.message_log.proofs.Recoveries.{Invalidation}
use Rattle.log_stores_code.proofs.invalidation.fill_invalidations.Given as goal

-- `log_stores_code::invalidation::fill_invalidations` meets its contract. Assumes nothing.
abbrev pub invariant-loop-c : goal.invariant-loop-c
invariant-loop-c l = Invalidation (word l.area) l.top l.k l.initial.at l.initial.value l.at l.value l.n l.c
