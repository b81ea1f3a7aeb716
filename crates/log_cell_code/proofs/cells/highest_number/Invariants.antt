-- Invariants and measures of `log_cell_code::cells::highest_number`.
use Rattle.words.specs.Word.{word}
use Rattle.message_log.proofs.CellWords.{Raising}
use Rattle.log_cell_code.proofs.cells.highest_number.Given as goal

-- `log_cell_code::cells::highest_number` meets its contract. Assumes nothing.
abbrev pub invariant-loop-c : goal.invariant-loop-c
invariant-loop-c l = Raising l.k (word l.area) l.best l.c
