-- The invariant of `recovery_judge_code::settling::invalidating_stores`.
use lib.Dec.{ltb}
use lib.ListN.{get_or}
use Rattle.words.specs.Word.{word}
use Rattle.recovery.proofs.InvalidatingStores.{Invalidation}
use Rattle.recovery_judge_code.proofs.settling.invalidating_stores.Given as goal

abbrev pub invariant-loop-s : goal.invariant-loop-s
invariant-loop-s l = Invalidation (word l.image) (λ t. ltb l.limit (get_or l.ranks t 0)) l.n l.opened l.s
