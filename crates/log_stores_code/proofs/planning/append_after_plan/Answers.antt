-- Answers of `log_stores_code::planning::append_after_plan`.
use Rattle.std.proofs.Common.{refl, arith}
use Rattle.refusals.proofs.Numbers.{not_zero, handed_on}
use Rattle.message_log.proofs.Parts.{cells_by}
use Rattle.message_log.proofs.Plans.{plan_no_area, plan_no_message, plan_no_number, cell_room, plan_fault, plan_ready}
use Rattle.log_stores_code.proofs.planning.append_after_plan.Goals as goal

pub returns-in_err-k-clause-fault : goal.returns-in_err-k-clause-fault
returns-in_err-k-clause-fault c =
    rw (handed_on _ _ c.from_residual.ensures.1) (plan_no_area _ _ _ _ _ _ c.in_err-k.ensures.fault (not_zero _))

pub returns-in_err-check_message-clause-fault : goal.returns-in_err-check_message-clause-fault
returns-in_err-check_message-clause-fault c =
    rw (handed_on _ _ c.from_residual-in_err-check_message.ensures.1)
    (plan_no_message _ _ _ _ _ c.in_ok-k.ensures.fault _ c.in_err-check_message.ensures (not_zero _))

pub returns-in_err-number-clause-fault : goal.returns-in_err-number-clause-fault
returns-in_err-number-clause-fault c =
    rw (handed_on _ _ c.from_residual-in_err-number.ensures.1)
    (plan_no_number _ _ _ _ _ c.in_ok-k.ensures.fault c.in_ok-check_message.ensures _ c.in_err-number.ensures.fault (not_zero _))

pub nonzero_rem-cell : goal.nonzero_rem-cell
nonzero_rem-cell c = omega (arith, (cells_by c.args.area.now _ c.in_ok-k.ensures.cells c.in_ok-k.ensures.fault).some)

pub payload_plan-payload-requires : goal.payload_plan-payload-requires
payload_plan-payload-requires c =
    cell_room c.args.area.now c.args.last c.args.message.now c.args.ats c.args.vals c.in_ok-k.ensures.fault
    c.in_ok-check_message.ensures c.in_ok-number.ensures.fault _ c.in_ok-k.ensures.cells _ _ c.in_ok-number.ensures.next refl

pub returns-in_err-check_room-clause-fault : goal.returns-in_err-check_room-clause-fault
returns-in_err-check_room-clause-fault c =
    rw (handed_on _ _ c.from_residual-in_err-check_room.ensures.1)
    (plan_fault _ _ _ _ _ c.in_ok-k.ensures.fault c.in_ok-check_message.ensures c.in_ok-number.ensures.fault _ c.in_ok-k.ensures.cells _ _
    c.in_ok-number.ensures.next refl _ _ c.payload_plan-payload.ensures _ c.in_err-check_room.ensures.result)

pub returns-clause-fault : goal.returns-clause-fault
returns-clause-fault c =
    plan_fault _ _ _ _ _ c.in_ok-k.ensures.fault c.in_ok-check_message.ensures c.in_ok-number.ensures.fault _ c.in_ok-k.ensures.cells _ _
    c.in_ok-number.ensures.next refl _ _ c.payload_plan-payload.ensures _ c.in_ok-check_room.ensures.result

pub returns-clause-plan : goal.returns-clause-plan
returns-clause-plan c =
    plan_ready _ _ _ _ _ c.in_ok-k.ensures.fault c.in_ok-check_message.ensures c.in_ok-number.ensures.fault _ c.in_ok-k.ensures.cells _ _
    c.in_ok-number.ensures.next refl _ _ c.payload_plan-payload.ensures c.in_ok-check_room.ensures.result
