-- Answers of `report_text_code::lent::is_lent`.
use mathlib.Core.Path.{sym, ◌∙◌}
use borrow.Author.Tests.{lt-ltb, le-ltb}
use Rattle.prelude.proofs.Choice.{pick_true, pick_false}
use Rattle.report_text.specs.Blocks.{is_lent}
use Rattle.report_text_code.proofs.lent.is_lent.Goals as goal
use Rattle.report_text_code.proofs.lent.is_lent.Goals.{then-size-have-via-then-size-have, then-size-have-via-else-size-have+then-room-size}

-- `report_text_code::lent::is_lent` meets its contract. Assumes nothing.
pub returns-then-size-have : goal.returns-then-size-have
unfolding is_lent
returns-then-size-have c =
    elim c.then-size-have.branch [
      | then-size-have-via-then-size-have w ↦ record { result = (sym (pick_true _ _ _ (lt-ltb _ _ w.if-size-have.true))) }
      | then-size-have-via-else-size-have+then-room-size w ↦
          record { result = (sym (pick_false _ _ _ (le-ltb _ _ w.if-size-have.false) ∙ pick_true _ _ _ (lt-ltb _ _ w.if-room-size.true))) }
    ]

pub returns : goal.returns
unfolding is_lent
returns c =
    record {
      result =
          (c.is_bounded.ensures.result ∙ sym (pick_false _ _ _ (le-ltb _ _ c.if-size-have.false) ∙ pick_false _ _ _ (le-ltb _ _ c.if-room-size.false)));
    }
