-- Answers of `calls_write_lookup_code::remove::remove_lookup`.
use Rattle.std.proofs.Common.{rules, ◌≡◌, ◌∙◌, length}
use Rattle.layout.specs.Header.{lent_fault}
use Rattle.layout.proofs.Lents.{lent_sized}
use Rattle.calls.specs.Change.{remove_fault_by}
use Rattle.calls.proofs.Lookups.{refused_early, lent_walkable, remove_looks_held, found_by_fault, remove_looks_absent, remove_looks_bad}
use Rattle.calls_write_lookup_code.proofs.remove.remove_lookup.Goals as goal

pub returns-then-lent-ne0 : goal.returns-then-lent-ne0
unfolding remove_fault_by
returns-then-lent-ne0 c =
    let lent : c.return_code-lent.result ≡ lent_fault c.args.l c.args.image.now (length c.args.heads.now) (length c.args.next.now) =
    c.return_code-lent.ensures.result ∙ c.check_lent.ensures.fault in
    record { result = (search (refused_early)) }

pub find_key-found-requires : goal.find_key-found-requires
unfolding remove_fault_by
find_key-found-requires c =
    let lent : c.return_code-lent.result ≡ lent_fault c.args.l c.args.image.now (length c.args.heads.now) (length c.args.next.now) =
    c.return_code-lent.ensures.result ∙ c.check_lent.ensures.fault in
    search (lent_sized, rules)

pub returns-in-Missing : goal.returns-in-Missing
unfolding remove_fault_by
returns-in-Missing c =
    let lent : c.return_code-lent.result ≡ lent_fault c.args.l c.args.image.now (length c.args.heads.now) (length c.args.next.now) =
    c.return_code-lent.ensures.result ∙ c.check_lent.ensures.fault in
    record { result = (search (remove_looks_absent)) }

pub returns-in-BadChain : goal.returns-in-BadChain
unfolding remove_fault_by
returns-in-BadChain c =
    let lent : c.return_code-lent.result ≡ lent_fault c.args.l c.args.image.now (length c.args.heads.now) (length c.args.next.now) =
    c.return_code-lent.ensures.result ∙ c.check_lent.ensures.fault in
    record { result = (search (remove_looks_bad)) }

pub lookup_at-requires : goal.lookup_at-requires
lookup_at-requires c =
    let lent : c.return_code-lent.result ≡ lent_fault c.args.l c.args.image.now (length c.args.heads.now) (length c.args.next.now) =
    c.return_code-lent.ensures.result ∙ c.check_lent.ensures.fault in
    search (lent_walkable, rules)

pub returns-in-At : goal.returns-in-At
returns-in-At c =
    let lent : c.return_code-lent.result ≡ lent_fault c.args.l c.args.image.now (length c.args.heads.now) (length c.args.next.now) =
    c.return_code-lent.ensures.result ∙ c.check_lent.ensures.fault in
    let found = found_by_fault _ c.lookup_at.result _ _ c.lookup_at.ensures.accepted c.lookup_at.ensures.refused in
    record { result = (search (remove_looks_held)) }
