-- Answers of `log_cell_code::cells::number_in`.
use native.Mathlib.Omega.{arith}
use Rattle.message_log.proofs.CellWords.{number_open, number_zero, number_elsewhere, number_empty, number_long, number_torn, number_is}
use Rattle.log_cell_code.proofs.cells.number_in.Goals as goal
use Rattle.log_cell_code.proofs.cells.number_in.Goals.{then-read_word-stamp-via-then-read_word-stamp}
use Rattle.log_cell_code.proofs.cells.number_in.Goals.{then-read_word-stamp-via-else-read_word-stamp+then-version-eq0}
use Rattle.log_cell_code.proofs.cells.number_in.Goals.{then-read_word-stamp-via-else-read_word-stamp+else-version-eq0+then-version-k}

pub returns-then-read_word-stamp : goal.returns-then-read_word-stamp
returns-then-read_word-stamp c =
    elim c.then-read_word-stamp.branch [
      | then-read_word-stamp-via-then-read_word-stamp w ↦
          number_open _ _ _ _ _ c.read_word.ensures.result c.read_word-stamp.ensures.result w.if-read_word-stamp.true
      | then-read_word-stamp-via-else-read_word-stamp+then-version-eq0 w ↦
          number_zero _ _ _ _ _ c.read_word.ensures.result c.read_word-stamp.ensures.result w.if-version-eq0.true
      | then-read_word-stamp-via-else-read_word-stamp+else-version-eq0+then-version-k w ↦
          number_elsewhere _ _ _ _ _ c.read_word.ensures.result c.read_word-stamp.ensures.result w.if-version-k.true
    ]

pub returns-in-1-to-384 : goal.returns-in-1-to-384
returns-in-1-to-384 c =
    number_is _ _ _ _ _
    c.read_word.ensures.result c.read_word-stamp.ensures.result _ c.read_word-2.ensures.result _ c.bits_differ.ensures
    c.if-read_word-stamp.false c.if-version-eq0.false c.if-version-k.false (omega arith) (omega arith) c.if-not-bits_differ.true

pub returns-in_default : goal.returns-in_default
returns-in_default c =
    number_empty _ _ _ _ _ c.read_word.ensures.result c.read_word-stamp.ensures.result _ c.read_word-2.ensures.result (omega arith)

pub returns-in_default-2 : goal.returns-in_default-2
returns-in_default-2 c =
    number_torn _ _ _ _ _
    c.read_word.ensures.result c.read_word-stamp.ensures.result _ c.read_word-2.ensures.result _ c.bits_differ.ensures
    c.if-not-bits_differ.false

pub returns-in_default-3 : goal.returns-in_default-3
returns-in_default-3 c =
    number_long _ _ _ _ _ c.read_word.ensures.result c.read_word-stamp.ensures.result _ c.read_word-2.ensures.result (omega arith)
