-- Answers of `text_code::output::store_numbers`.
use Rattle.text.proofs.Storing.{numbers_wrote}
use Rattle.text_code.proofs.output.store_numbers.Goals as goal

pub returns : goal.returns
returns c =
    record { result = (search numbers_wrote) }
