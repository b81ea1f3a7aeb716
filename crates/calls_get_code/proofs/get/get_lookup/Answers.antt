-- Answers of `calls_get_code::get::get_lookup`.
use Rattle.std.proofs.Common.{rules, ◌≡◌, ◌∙◌, length}
use Rattle.layout.specs.Header.{lent_fault}
use Rattle.layout.proofs.Lents.{lent_sized}
use Rattle.calls.specs.Get.{get_fault}
use Rattle.calls.proofs.Lookups.{refused_early, lent_inside, get_looks}
use Rattle.calls_get_code.proofs.get.get_lookup.Goals as goal

pub returns-then-lent-ne0 : goal.returns-then-lent-ne0
unfolding get_fault
returns-then-lent-ne0 c =
    let lent : c.return_code-lent.result ≡ lent_fault c.args.l c.args.image.now (length c.args.heads.now) (length c.args.next.now) =
    c.return_code-lent.ensures.result ∙ c.check_lent.ensures.fault in
    search (refused_early)

pub slot_count-requires : goal.slot_count-requires
unfolding get_fault
slot_count-requires c =
    search rules

pub find_key-found-requires : goal.find_key-found-requires
unfolding get_fault
find_key-found-requires c =
    let lent : c.return_code-lent.result ≡ lent_fault c.args.l c.args.image.now (length c.args.heads.now) (length c.args.next.now) =
    c.return_code-lent.ensures.result ∙ c.check_lent.ensures.fault in
    search (lent_sized, rules)

pub get_later_fault-fault-requires : goal.get_later_fault-fault-requires
unfolding get_fault
get_later_fault-fault-requires c =
    let lent : c.return_code-lent.result ≡ lent_fault c.args.l c.args.image.now (length c.args.heads.now) (length c.args.next.now) =
    c.return_code-lent.ensures.result ∙ c.check_lent.ensures.fault in
    search (lent_inside, rules)

pub looked_up-requires : goal.looked_up-requires
unfolding get_fault
looked_up-requires c =
    search rules

pub returns : goal.returns
unfolding get_fault
returns c =
    let lent : c.return_code-lent.result ≡ lent_fault c.args.l c.args.image.now (length c.args.heads.now) (length c.args.next.now) =
    c.return_code-lent.ensures.result ∙ c.check_lent.ensures.fault in
    search (get_looks)
