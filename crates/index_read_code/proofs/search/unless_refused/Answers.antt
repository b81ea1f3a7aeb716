-- Answers of `index_read_code::search::unless_refused`.
use mathlib.Core.Path.{sym}
use Rattle.prelude.proofs.Refusals.{taken_leaves, refused_keeps}
use Rattle.index_read_code.proofs.search.unless_refused.Goals as goal

-- `index_read_code::search::unless_refused` meets its contract. Assumes nothing.
pub returns-then-fault-ne0 : goal.returns-then-fault-ne0
returns-then-fault-ne0 c =
    record { result = (sym (refused_keeps _ _ _ c.if-fault-ne0.true)) }

pub returns : goal.returns
returns c =
    record { result = (sym (taken_leaves _ _ _ c.if-fault-ne0.false)) }
