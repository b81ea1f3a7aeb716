-- Answers of `linequery_code::check_next`.
use Rattle.std.proofs.Common.{rules, refl}
use Rattle.refusals.proofs.Numbers.{not_zero, handed_on}
use Rattle.linequery.proofs.Queries.{slices_first, version_later}
use Rattle.linequery_code.proofs.check_next.Goals as goal

pub returns-in_err-check_slices : goal.returns-in_err-check_slices
returns-in_err-check_slices c = rw (handed_on _ _ c.from_residual.ensures.1) (slices_first _ _ _ c.in_err-check_slices.ensures _ (not_zero _))

pub returns : goal.returns
returns c = version_later _ _ _ c.in_ok-check_slices.ensures _ _ refl c.check_version.ensures.result
