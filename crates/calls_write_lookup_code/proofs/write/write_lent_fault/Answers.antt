-- Answers of `calls_write_lookup_code::write::write_lent_fault`.
use Rattle.std.proofs.Common.{rules, ◌≡◌, ◌∙◌}
use Rattle.layout.specs.Header.{lent_fault}
use Rattle.calls.specs.Change.{write_lent_fault}
use Rattle.calls.proofs.Lookups.{said, passed, value_too_long, value_fits}
use Rattle.calls_write_lookup_code.proofs.write.write_lent_fault.Goals as goal

pub returns-then-lent-ne0 : goal.returns-then-lent-ne0
unfolding write_lent_fault
returns-then-lent-ne0 c =
    let lent : c.return_code-lent.result ≡ lent_fault c.args.l c.args.image.now c.args.heads c.args.next =
    c.return_code-lent.ensures.result ∙ c.check_lent.ensures.fault in
    search (said, passed)

pub value_limit-requires : goal.value_limit-requires
unfolding write_lent_fault
value_limit-requires c =
    let lent : c.return_code-lent.result ≡ lent_fault c.args.l c.args.image.now c.args.heads c.args.next =
    c.return_code-lent.ensures.result ∙ c.check_lent.ensures.fault in
    search rules

pub returns-then-value_limit-size : goal.returns-then-value_limit-size
unfolding write_lent_fault
returns-then-value_limit-size c =
    let lent : c.return_code-lent.result ≡ lent_fault c.args.l c.args.image.now c.args.heads c.args.next =
    c.return_code-lent.ensures.result ∙ c.check_lent.ensures.fault in
    search (passed, value_too_long)

pub returns : goal.returns
unfolding write_lent_fault
returns c =
    let lent : c.return_code-lent.result ≡ lent_fault c.args.l c.args.image.now c.args.heads c.args.next =
    c.return_code-lent.ensures.result ∙ c.check_lent.ensures.fault in
    search (passed, value_fits)
