-- Answers of `text_code::output::store_number`.
use Rattle.text.proofs.Storing.{number_wrote}
use Rattle.text_code.proofs.output.store_number.Goals as goal

pub returns : goal.returns
returns c =
    search number_wrote
