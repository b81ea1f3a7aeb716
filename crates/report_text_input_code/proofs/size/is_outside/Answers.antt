-- Answers of `report_text_input_code::size::is_outside`.
use Rattle.prelude.proofs.Tests.{tests}
use Rattle.report_text.specs.Report.{outside}
use Rattle.report_text_input_code.proofs.size.is_outside.Goals as goal
use Rattle.report_text_input_code.proofs.size.is_outside.Goals.{in-2-to-511, in_default, in_default-2}

pub returns : goal.returns
unfolding outside
returns c =
    elim c.if-matches.branch [ in-2-to-511 w ↦ search tests | in_default w ↦ search tests | in_default-2 w ↦ search tests ]
