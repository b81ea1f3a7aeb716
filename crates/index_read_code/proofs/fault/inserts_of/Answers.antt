-- Answers of `index_read_code::fault::inserts_of`.
use borrow.Author.Rules.{rules}
use Rattle.index.specs.Change.{inserts_of}
use Rattle.index_read_code.proofs.fault.inserts_of.Goals as goal

pub returns-in-Insert : goal.returns-in-Insert
unfolding inserts_of
returns-in-Insert c =
    record { result = (search rules) }

pub returns-in-Replace : goal.returns-in-Replace
unfolding inserts_of
returns-in-Replace c =
    record { result = (search rules) }
