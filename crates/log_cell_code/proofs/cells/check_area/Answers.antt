-- Answers of `log_cell_code::cells::check_area`.
use Rattle.std.proofs.Common.{◌≡◌, ◌/◌, length, refl, sym, arith}
use Rattle.prelude.proofs.Tests.{tests}
use Rattle.prelude.specs.Refusal.{refuse_if}
use Rattle.message_log.specs.Area.{cells_of, cells_in}
use Rattle.message_log.proofs.Parts.{no_area, is_area}
use Rattle.log_cell_code.proofs.cells.check_area.Goals as goal

pub returns-in-896-to-448000-clause-fault : goal.returns-in-896-to-448000-clause-fault
unfolding cells_of refuse_if
returns-in-896-to-448000-clause-fault c =
    let e : length c.args.area.now / 448 ≡ cells_in c.args.area.now = search tests in sym (is_area _ _ e (λ z. omega arith))

pub returns-in-896-to-448000-clause-cells : goal.returns-in-896-to-448000-clause-cells
unfolding cells_of refuse_if
returns-in-896-to-448000-clause-cells c = search tests

pub returns-in_default-clause-fault : goal.returns-in_default-clause-fault
unfolding cells_of refuse_if
returns-in_default-clause-fault c = let e : 0 ≡ cells_in c.args.area.now = search tests in sym (no_area _ _ e refl)

pub returns-in_default-2-clause-fault : goal.returns-in_default-2-clause-fault
unfolding cells_of refuse_if
returns-in_default-2-clause-fault c = let e : 0 ≡ cells_in c.args.area.now = search tests in sym (no_area _ _ e refl)

pub returns-in_default-3-clause-fault : goal.returns-in_default-3-clause-fault
unfolding cells_of refuse_if
returns-in_default-3-clause-fault c = let e : 0 ≡ cells_in c.args.area.now = search tests in sym (no_area _ _ e refl)
