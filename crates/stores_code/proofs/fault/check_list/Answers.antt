-- Answers of `stores_code::fault::check_list`.
use Rattle.std.proofs.Common.{rules}
use Rattle.stores.proofs.Plays.{list_sizes, list_outside, list_fine}
use Rattle.stores_code.proofs.fault.check_list.Goals as goal
use Rattle.stores_code.proofs.fault.check_list.Goals.{then-at-values-via-then-at-values, then-at-values-via-else-at-values+then-any_outside}

pub returns-then-at-values : goal.returns-then-at-values
returns-then-at-values c =
    record {
      result =
          elim c.then-at-values.branch [
            | then-at-values-via-then-at-values w ↦ search list_sizes
            | then-at-values-via-else-at-values+then-any_outside w ↦ search list_outside
          ];
    }

pub returns : goal.returns
returns c = record { result = (search list_fine) }
