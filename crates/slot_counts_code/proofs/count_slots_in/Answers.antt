-- Answers of `slot_counts_code::count_slots_in`.
use Rattle.slot_counts.proofs.Answers.{count_refused, accepted, count_taken}
use Rattle.slot_counts_code.proofs.count_slots_in.Goals as goal

pub count_accepted-requires : goal.count_accepted-requires
count_accepted-requires c =
    accepted _ _ _ _ _ _ c.in-Rebuilt.is _ _ _ c.recover_in-report.ensures.result.result_is c.requires _
    c.recover_in-report.ensures.result.classed

pub returns-in-Rebuilt : goal.returns-in-Rebuilt
returns-in-Rebuilt c =
    count_taken _ _ _ _ _ _ c.in-Rebuilt.is _ _ _ c.recover_in-report.ensures.result.result_is _ c.count_accepted.ensures

pub returns-in-Refused : goal.returns-in-Refused
returns-in-Refused c =
    count_refused _ _ _ _ _ _ _ c.in-Refused.is _ _ _ c.recover_in-report.ensures.result.result_is
