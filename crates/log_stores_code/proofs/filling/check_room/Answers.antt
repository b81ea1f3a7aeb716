-- Answers of `log_stores_code::filling::check_room`.
use Rattle.prelude.proofs.Tests.{tests}
use Rattle.prelude.specs.Refusal.{refuse_if}
use Rattle.message_log.specs.LogOutcome.{short_fault}
use Rattle.log_stores_code.proofs.filling.check_room.Goals as goal
use Rattle.log_stores_code.proofs.filling.check_room.Goals.{then-ats-count-via-then-ats-count, then-ats-count-via-else-ats-count+then-vals-count}

pub returns-then-ats-count : goal.returns-then-ats-count
unfolding short_fault refuse_if
returns-then-ats-count c =
    record {
      result =
          elim c.then-ats-count.branch [
            | then-ats-count-via-then-ats-count w ↦ search tests
            | then-ats-count-via-else-ats-count+then-vals-count w ↦ search tests
          ];
    }

pub returns : goal.returns
unfolding short_fault refuse_if
returns c = record { result = (search tests) }
