-- Answers of `calls_locate_code::locate::locate2`.
use borrow.Author.Rules.{rules}
use Rattle.calls_locate_code.proofs.locate.locate2.Goals as goal

pub returns : goal.returns
returns c =
    record { result = (c.locate_in.ensures.result) }
