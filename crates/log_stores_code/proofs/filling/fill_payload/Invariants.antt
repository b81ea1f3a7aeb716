-- Invariants and measures of `log_stores_code::filling::fill_payload`.
use Rattle.words.specs.Word.{word}
use Rattle.message_log.proofs.Plans.{Paying}
use Rattle.log_stores_code.proofs.filling.fill_payload.Given as goal

-- `log_stores_code::filling::fill_payload` meets its contract. Assumes nothing.
abbrev pub invariant-loop-i : goal.invariant-loop-i
invariant-loop-i l = Paying (word l.area) l.c l.message l.initial.at l.initial.value l.at l.value l.k l.i
