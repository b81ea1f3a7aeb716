-- Invariants and measures of `log_stores_code::planning::payload_plan`.
use Rattle.words.specs.Word.{word}
use Rattle.message_log.proofs.Plans.{Planning}
use Rattle.log_stores_code.proofs.planning.payload_plan.Given as goal

-- `log_stores_code::planning::payload_plan` meets its contract. Assumes nothing.
abbrev pub invariant-loop-i : goal.invariant-loop-i
invariant-loop-i l = Planning (word l.area) l.c l.message l.pairs l.count l.i
