-- Answers of `log_cell_code::cells::highest_number`.
use mathlib.Core.Path.{refl}
use native.Mathlib.Omega.{arith}
use borrow.Author.Rules.{rules}
use Rattle.message_log.proofs.CellWords.{raise_start, raise_next, raise_end}
use Rattle.log_cell_code.proofs.cells.highest_number.Goals as goal

pub loop-c-init : goal.loop-c-init
loop-c-init c =
    raise_start _ _

pub greater_in-best-requires : goal.greater_in-best-requires
greater_in-best-requires c =
    record { all = c.requires; one = omega (arith, c.loop-c.invariant.left) }

pub loop-c-preserved : goal.loop-c-preserved
loop-c-preserved c =
    raise_next _ _ _ _ _ _ c.loop-c.invariant (search rules) refl c.greater_in-best.ensures

pub returns : goal.returns
returns c =
    record { result = (raise_end _ _ _ _ c.loop-c.invariant c.loop-c-test.false) }
