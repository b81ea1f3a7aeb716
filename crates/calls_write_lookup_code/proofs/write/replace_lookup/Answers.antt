-- Answers of `calls_write_lookup_code::write::replace_lookup`.
use borrow.Author.Rules.{rules}
use Rattle.calls.specs.Change.{write_fault_by}
use Rattle.calls.proofs.Lookups.{refused_early, write_sized, write_walkable, replace_looks, found_by_fault, replace_looks_absent, write_looks_bad}
use Rattle.calls_write_lookup_code.proofs.write.replace_lookup.Goals as goal

pub returns-then-lent-ne0 : goal.returns-then-lent-ne0
unfolding write_fault_by
returns-then-lent-ne0 c =
    record { result = (search (refused_early)) }

pub find_key-found-requires : goal.find_key-found-requires
unfolding write_fault_by
find_key-found-requires c =
    search (write_sized, rules)

pub returns-in-Missing : goal.returns-in-Missing
unfolding write_fault_by
returns-in-Missing c =
    record { result = (search (replace_looks_absent)) }

pub returns-in-BadChain : goal.returns-in-BadChain
unfolding write_fault_by
returns-in-BadChain c =
    record { result = (search (write_looks_bad)) }

pub lookup_at-requires : goal.lookup_at-requires
lookup_at-requires c =
    search (write_walkable, rules)

pub returns-in-At : goal.returns-in-At
returns-in-At c =
    let found = found_by_fault _ c.lookup_at.result _ _ c.lookup_at.ensures.accepted c.lookup_at.ensures.refused in
    record { result = (search (replace_looks)) }
