-- Answers of `log_code::recovering::recover_log`.
use Rattle.refusals.proofs.Numbers.{not_zero}
use Rattle.message_log.specs.LogOutcome.{log_answer}
use Rattle.message_log.proofs.Fillings.{answer_handed}
use Rattle.message_log.proofs.Parts.{cells_by}
use Rattle.message_log.proofs.Recoveries.{recover_no_area, recover_short, recover_room, recover_done}
use Rattle.log_code.proofs.recovering.recover_log.Goals as goal

pub returns-in_err-k : goal.returns-in_err-k
returns-in_err-k c =
    record { result = rw (answer_handed _ _ c.from_residual.ensures.1) (recover_no_area _ _ _ _ c.in_err-k.ensures.fault (not_zero _)) }

pub highest_number-top-requires : goal.highest_number-top-requires
highest_number-top-requires c = cells_by c.args.area.now _ c.in_ok-k.ensures.cells c.in_ok-k.ensures.fault

pub count_invalidations-count-requires : goal.count_invalidations-count-requires
count_invalidations-count-requires c = cells_by c.args.area.now _ c.in_ok-k.ensures.cells c.in_ok-k.ensures.fault

pub returns-in_err-check_room : goal.returns-in_err-check_room
returns-in_err-check_room c =
    record {
      result =
          rw (answer_handed _ _ c.from_residual-in_err-check_room.ensures.1)
          (recover_short _ _ _ c.in_ok-k.ensures.fault _ c.in_ok-k.ensures.cells _ _ c.highest_number-top.ensures.result
          c.count_invalidations-count.ensures.result _ c.in_err-check_room.ensures.result (not_zero _));
    }

pub fill_invalidations-requires : goal.fill_invalidations-requires
fill_invalidations-requires c =
    recover_room _ c.args.at.now c.args.value.now c.in_ok-k.ensures.fault _ c.in_ok-k.ensures.cells _ _ c.highest_number-top.ensures.result
    c.count_invalidations-count.ensures.result c.in_ok-check_room.ensures.result

pub returns : goal.returns
unfolding log_answer
returns c =
    record {
      result =
          recover_done _ _ _ c.in_ok-k.ensures.fault _ c.in_ok-k.ensures.cells _ _ c.highest_number-top.ensures.result
          c.count_invalidations-count.ensures.result c.in_ok-check_room.ensures.result _ _ c.fill_invalidations.ensures.result;
    }
