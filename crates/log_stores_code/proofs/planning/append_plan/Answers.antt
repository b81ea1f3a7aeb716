-- Answers of `log_stores_code::planning::append_plan`.
use Rattle.refusals.proofs.Numbers.{not_zero, handed_on}
use Rattle.message_log.proofs.Parts.{cells_by}
use Rattle.message_log.proofs.Plans.{no_area_first, fault_by, ready_by}
use Rattle.log_stores_code.proofs.planning.append_plan.Goals as goal

pub returns-in_err-k-clause-fault : goal.returns-in_err-k-clause-fault
returns-in_err-k-clause-fault c =
    rw (handed_on _ _ c.from_residual.ensures.1) (no_area_first _ _ _ _ _ c.in_err-k.ensures.fault (not_zero _))

pub highest_number-requires : goal.highest_number-requires
highest_number-requires c = cells_by c.args.area.now _ c.in_ok-k.ensures.cells c.in_ok-k.ensures.fault

pub returns-clause-fault : goal.returns-clause-fault
returns-clause-fault c =
    fault_by _ _ _ _ _ c.in_ok-k.ensures.cells _ c.highest_number.ensures.result _ c.append_after_plan.ensures.fault

pub returns-clause-plan : goal.returns-clause-plan
returns-clause-plan c =
    ready_by _ _ _ _ _ c.in_ok-k.ensures.cells _ c.highest_number.ensures.result _ c.append_after_plan.ensures.plan
