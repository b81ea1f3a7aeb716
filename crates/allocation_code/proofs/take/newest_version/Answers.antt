-- Answers of `allocation_code::take::newest_version`.
use Rattle.allocation.proofs.Takes.{version_within}
use Rattle.allocation_code.proofs.take.newest_version.Goals as goal

pub returns : goal.returns
returns c =
    record { result = (search version_within) }
