-- Answers of `allocation_code::slot::is_low`.
use mathlib.Core.Path.{◌∙◌}
use borrow.Author.Tests.{le-ltb}
use Rattle.allocation.proofs.Tested.{not_low, low_by_kind}
use Rattle.allocation_code.proofs.slot.is_low.Goals as goal

pub returns-then-read_word-top : goal.returns-then-read_word-top
returns-then-read_word-top c =
    record { result = (search low_by_kind) }

pub returns-else-read_word-top : goal.returns-else-read_word-top
returns-else-read_word-top c =
    record { result = le-ltb _ _ c.if-read_word-top.false ∙ not_low _ _ _ _ _ c.read_word.ensures.result c.if-read_word-top.false }
