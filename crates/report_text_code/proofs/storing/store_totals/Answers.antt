-- Answers of `report_text_code::storing::store_totals`.
use Rattle.report_text.specs.Report.{totals_text}
use borrow.Author.Rules.{rules}
use Rattle.report_text_code.proofs.storing.store_totals.Goals as goal

-- `report_text_code::storing::store_totals` meets its contract. Assumes nothing.
pub returns : goal.returns
unfolding totals_text
returns c =
    record { result = (search rules) }
