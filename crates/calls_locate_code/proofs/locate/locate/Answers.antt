-- Answers of `calls_locate_code::locate::locate`.
use borrow.Author.Rules.{rules}
use Rattle.calls.proofs.Changes.{key_alone}
use Rattle.calls_locate_code.proofs.locate.locate.Goals as goal

-- `calls_locate_code::locate::locate` meets its contract. Assumes nothing.
pub returns : goal.returns
returns c =
    record { result = (rw (key_alone c.args.key) at c.locate_in.ensures.result) }
