-- Invariants of `allocation_code::take::walk_fault`.
use Rattle.layout.specs.Content.{contents_of}
use Rattle.allocation.specs.inner.Takeable.{takeable}
use Rattle.allocation.proofs.Walks.{Walking}
use Rattle.allocation_code.proofs.take.walk_fault.Given as goal

abbrev pub invariant-loop-left : goal.invariant-loop-left
invariant-loop-left l =
    Walking (takeable (contents_of l.l l.image) l.n l.top l.scan) l.next l.n l.most l.wanted l.first l.at l.left l.need
