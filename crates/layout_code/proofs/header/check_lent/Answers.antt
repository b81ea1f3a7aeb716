-- Answers of `layout_code::header::check_lent`.
use Rattle.std.proofs.Common.{refl, arith, length}
use Rattle.refusals.proofs.Numbers.{not_zero, handed_on}
use Rattle.layout.proofs.Size.{slots_high}
use Rattle.layout.proofs.Headers.{by_image, by_index}
use Rattle.layout_code.proofs.header.check_lent.Goals as goal

pub returns-in_err-n-clause-fault : goal.returns-in_err-n-clause-fault
returns-in_err-n-clause-fault c =
    rw (handed_on _ _ c.from_residual.ensures.1)
    (by_image _ _ _ _ _ c.in_err-n.ensures.fault (not_zero _))

pub check_index-requires : goal.check_index-requires
check_index-requires c = omega (arith, c.in_ok-n.ensures.slots, slots_high (length c.args.image.now))

pub returns-in_err-check_index-clause-fault : goal.returns-in_err-check_index-clause-fault
returns-in_err-check_index-clause-fault c =
    rw (handed_on _ _ c.from_residual-in_err-check_index.ensures.1)
    (by_index _ _ _ _ _ c.in_ok-n.ensures.fault refl _ _ c.in_ok-n.ensures.slots c.in_err-check_index.ensures.result)

pub returns-clause-fault : goal.returns-clause-fault
returns-clause-fault c = by_index _ _ _ _ _ c.in_ok-n.ensures.fault refl _ _ c.in_ok-n.ensures.slots c.in_ok-check_index.ensures.result
