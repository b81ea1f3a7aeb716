-- Answers of `stores_code::fault::check_halves`.
use Rattle.std.proofs.Common.{rules}
use Rattle.stores.proofs.Plays.{halves_first, halves_second, halves_same, halves_fine}
use Rattle.stores_code.proofs.fault.check_halves.Goals as goal
use Rattle.stores_code.proofs.fault.check_halves.Goals.{then-half_fault-via-then-half_fault, then-half_fault-via-else-half_fault+then-half_fault-2}
use Rattle.stores_code.proofs.fault.check_halves.Goals.{then-half_fault-via-else-half_fault+else-half_fault-2+then-at}

pub returns-then-half_fault : goal.returns-then-half_fault
returns-then-half_fault c =
    elim c.then-half_fault.branch [
      | then-half_fault-via-then-half_fault w ↦ search halves_first
      | then-half_fault-via-else-half_fault+then-half_fault-2 w ↦ search halves_second
      | then-half_fault-via-else-half_fault+else-half_fault-2+then-at w ↦ search halves_same
    ]

pub returns : goal.returns
returns c = search halves_fine
