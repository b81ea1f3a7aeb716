-- The invariant of `recovery_judge_code::settling::clear_above`.
use Rattle.recovery.proofs.Settles.{Clearing}
use Rattle.recovery_judge_code.proofs.settling.clear_above.Given as goal

abbrev pub invariant-loop-s : goal.invariant-loop-s
invariant-loop-s l = Clearing l.limit l.n l.initial.ranks l.initial.places l.ranks l.places l.s
