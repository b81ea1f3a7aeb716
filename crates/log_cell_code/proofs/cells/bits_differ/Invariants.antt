-- Invariants and measures of `log_cell_code::cells::bits_differ`.
use Rattle.words.specs.Word.{word}
use Rattle.message_log.proofs.CellWords.{Matching}
use Rattle.log_cell_code.proofs.cells.bits_differ.Given as goal

-- `log_cell_code::cells::bits_differ` meets its contract. Assumes nothing.
abbrev pub invariant-loop-i : goal.invariant-loop-i
invariant-loop-i l = Matching (word l.area) l.c l.i l.rest
