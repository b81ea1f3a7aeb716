-- Answers of `report_text_code::lent::is_bounded`.
use mathlib.Core.Path.{sym, ◌∙◌}
use borrow.Author.Tests.{lt-ltb, le-ltb, lt-leb}
use Rattle.prelude.proofs.Choice.{pick_true, pick_false}
use Rattle.report_text.specs.Blocks.{is_bounded}
use Rattle.report_text_code.proofs.lent.is_bounded.Goals as goal

-- `report_text_code::lent::is_bounded` meets its contract. Assumes nothing.
pub returns-then-p-le1000000 : goal.returns-then-p-le1000000
unfolding is_bounded
returns-then-p-le1000000 c =
    record { result = (c.is_below.ensures.result ∙ sym (pick_false _ _ _ (le-ltb 1000000 _ c.if-p-le1000000.true))) }

pub returns-else-p-le1000000 : goal.returns-else-p-le1000000
unfolding is_bounded
returns-else-p-le1000000 c =
    record { result = (lt-leb _ 1000000 c.if-p-le1000000.false ∙ sym (pick_true _ _ _ (lt-ltb 1000000 _ c.if-p-le1000000.false))) }
