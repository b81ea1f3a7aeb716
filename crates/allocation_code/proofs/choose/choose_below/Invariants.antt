-- Invariants and measures of `allocation_code::choose::choose_below`.
use Rattle.allocation.proofs.Choices.{ChoosingBelow}
use Rattle.allocation_code.proofs.choose.choose_below.Given as goal

-- `allocation_code::choose::choose_below` meets its contract. Assumes nothing.
abbrev pub invariant-loop-p : goal.invariant-loop-p
invariant-loop-p l = ChoosingBelow l.l l.image l.next l.n l.first l.wanted l.top l.p

abbrev pub decreases-loop-p : goal.decreases-loop-p
decreases-loop-p l = l.p.left
