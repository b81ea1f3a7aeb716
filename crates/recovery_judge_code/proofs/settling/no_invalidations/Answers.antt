-- Answers of `recovery_judge_code::settling::no_invalidations`.
use mathlib.Core.Path.{refl}
use Rattle.prelude.specs.Range.{tabulate}
use Rattle.stores.specs.Play.{word_numbers, values}
use Rattle.recovery.specs.Invalidation.{invalidations_of}
use Rattle.recovery_judge_code.proofs.settling.no_invalidations.Goals as goal

pub returns : goal.returns
unfolding invalidations_of tabulate word_numbers values
returns c =
    record { result = (refl) }
