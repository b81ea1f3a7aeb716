-- Answers of `calls_get_code::get::get2`.
use borrow.Author.Rules.{rules}
use Rattle.calls_get_code.proofs.get.get2.Goals as goal

pub returns : goal.returns
returns c =
    c.get_in.ensures
