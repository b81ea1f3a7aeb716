-- Answers of `stores_code::fault::check_play`.
use Rattle.std.proofs.Common.{rules}
use Rattle.stores.proofs.Plays.{play_length, play_first, play_second, play_halves}
use Rattle.stores_code.proofs.fault.check_play.Goals as goal
use Rattle.stores_code.proofs.fault.check_play.Goals.{then-a-gt8-via-then-a-gt8, then-a-gt8-via-else-a-gt8+then-b-gt8}

pub returns-then-slot_count-eq0 : goal.returns-then-slot_count-eq0
returns-then-slot_count-eq0 c = record { result = (search play_length) }

pub returns-then-a-gt8 : goal.returns-then-a-gt8
returns-then-a-gt8 c =
    record {
      result =
          elim c.then-a-gt8.branch [
            | then-a-gt8-via-then-a-gt8 w ↦ search play_first
            | then-a-gt8-via-else-a-gt8+then-b-gt8 w ↦ search play_second
          ];
    }

pub returns : goal.returns
returns c = record { result = (search play_halves) }
