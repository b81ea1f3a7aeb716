-- Answers of `report_text_code::storing::store_refusal`.
use Rattle.text.specs.Output.{text}
use borrow.Author.Rules.{rules}
use Rattle.report_text_code.proofs.storing.store_refusal.Goals as goal

-- `report_text_code::storing::store_refusal` meets its contract. Assumes nothing.
pub returns : goal.returns
unfolding text
returns c =
    record { result = (search rules) }
