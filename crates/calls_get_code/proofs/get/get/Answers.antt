-- Answers of `calls_get_code::get::get`.
use borrow.Author.Rules.{rules}
use Rattle.calls.proofs.Changes.{key_alone}
use Rattle.calls_get_code.proofs.get.get.Goals as goal

-- `calls_get_code::get::get` meets its contract. Assumes nothing.
pub returns : goal.returns
returns c =
    record { result = (rw (key_alone c.args.key) at c.get_in.ensures.result); moved = (c.get_in.ensures.moved) }
