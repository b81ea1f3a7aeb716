-- Answers of `layout_code::header::check_image`.
use Rattle.std.proofs.Common.{rules, arith, ◌∙◌}
use Rattle.refusals.proofs.Numbers.{handed_on}
use Rattle.layout.proofs.Size.{long}
use Rattle.layout.proofs.Headers.{no_slots, by_header}
use Rattle.layout_code.proofs.header.check_image.Goals as goal

pub returns-then-n-eq0-clause-fault : goal.returns-then-n-eq0-clause-fault
returns-then-n-eq0-clause-fault c = search no_slots

pub check_header-requires : goal.check_header-requires
check_header-requires c =
    (omega (arith, (long _ (λ e. c.if-n-eq0.false (c.slot_count-n.ensures.result ∙ e))).size), omega arith)

pub returns-in_err-check_header-clause-fault : goal.returns-in_err-check_header-clause-fault
returns-in_err-check_header-clause-fault c =
    rw (handed_on _ _ c.from_residual.ensures.1)
    (by_header _ _ _ c.slot_count-n.ensures.result c.if-n-eq0.false _ c.in_err-check_header.ensures)

pub returns-clause-fault : goal.returns-clause-fault
returns-clause-fault c = by_header _ _ _ c.slot_count-n.ensures.result c.if-n-eq0.false _ c.in_ok-check_header.ensures
