-- Answers of `text_code::output::store_line`.
use Rattle.text.proofs.Storing.{numbers_more, line_wrote}
use Rattle.text_code.proofs.output.store_line.Goals as goal

pub loop-n-preserved : goal.loop-n-preserved
loop-n-preserved c =
    search numbers_more

pub returns : goal.returns
returns c =
    search line_wrote
