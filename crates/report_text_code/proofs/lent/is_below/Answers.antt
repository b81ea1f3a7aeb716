-- Answers of `report_text_code::lent::is_below`.
use Rattle.prelude.proofs.Tests.{tests}
use Rattle.report_text.specs.Blocks.{is_below}
use Rattle.report_text_code.proofs.lent.is_below.Goals as goal
use Rattle.report_text_code.proofs.lent.is_below.Goals.{then-bound-t-via-then-bound-t}
use Rattle.report_text_code.proofs.lent.is_below.Goals.{then-bound-t-via-else-bound-t+then-bound-t-2}
use Rattle.report_text_code.proofs.lent.is_below.Goals.{then-bound-t-via-else-bound-t+else-bound-t-2+then-bound-t-3}
use Rattle.report_text_code.proofs.lent.is_below.Goals.{then-bound-t-via-else-bound-t+else-bound-t-2+else-bound-t-3+then-bound-t-4}
use Rattle.report_text_code.proofs.lent.is_below.Goals.{then-bound-t-via-else-bound-t+else-bound-t-2+else-bound-t-3+else-bound-t-4+then-bound-t-5}

pub returns-then-bound-t : goal.returns-then-bound-t
unfolding is_below
returns-then-bound-t c =
    elim c.then-bound-t.branch [
      | then-bound-t-via-then-bound-t w ↦ record { result = (search tests) }
      | then-bound-t-via-else-bound-t+then-bound-t-2 w ↦ record { result = (search tests) }
      | then-bound-t-via-else-bound-t+else-bound-t-2+then-bound-t-3 w ↦ record { result = (search tests) }
      | then-bound-t-via-else-bound-t+else-bound-t-2+else-bound-t-3+then-bound-t-4 w ↦ record { result = (search tests) }
      | then-bound-t-via-else-bound-t+else-bound-t-2+else-bound-t-3+else-bound-t-4+then-bound-t-5 w ↦ record { result = (search tests) }
    ]

pub returns : goal.returns
unfolding is_below
returns c =
    record { result = (search tests) }
