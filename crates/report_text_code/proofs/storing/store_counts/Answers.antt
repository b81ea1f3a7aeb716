-- Answers of `report_text_code::storing::store_counts`.
use Rattle.text.specs.Output.{line_text}
use Rattle.interface.specs.Set.{count_values}
use borrow.Author.Rules.{rules}
use Rattle.report_text_code.proofs.storing.store_counts.Goals as goal

-- `report_text_code::storing::store_counts` meets its contract. Assumes nothing.
pub returns : goal.returns
unfolding line_text count_values
returns c =
    record { result = (search rules) }
