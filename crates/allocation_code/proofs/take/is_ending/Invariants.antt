-- Invariants of `allocation_code::take::is_ending`.
use Rattle.allocation.proofs.Looks.{Ending}
use Rattle.allocation_code.proofs.take.is_ending.Given as goal

abbrev pub invariant-loop-left : goal.invariant-loop-left
invariant-loop-left l = Ending l.next l.n l.n l.first l.at l._left
