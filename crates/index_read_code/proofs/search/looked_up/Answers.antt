-- Answers of `index_read_code::search::looked_up`.
use borrow.Author.Rules.{rules}
use Rattle.index.specs.inner.Lookup.{lookup_by}
use Rattle.index.proofs.LookedUp.{refused_by_fault, held_taken, not_held_taken}
use Rattle.index_read_code.proofs.search.looked_up.Goals as goal

pub returns-then-fault-ne0 : goal.returns-then-fault-ne0
returns-then-fault-ne0 c =
    record { result = (search (refused_by_fault, rules)) }

pub returns-in-At : goal.returns-in-At
returns-in-At c =
    record { result = (search (held_taken, rules)) }

pub returns-in-Missing : goal.returns-in-Missing
returns-in-Missing c =
    record { result = (search (not_held_taken, rules)) }

-- `index_read_code::search::looked_up` meets its contract. Assumes nothing.
pub returns-in-BadChain : goal.returns-in-BadChain
unfolding lookup_by
returns-in-BadChain c =
    record { result = (rw c.in-BadChain.is) }
