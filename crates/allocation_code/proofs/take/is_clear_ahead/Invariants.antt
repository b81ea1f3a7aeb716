-- Invariants of `allocation_code::take::is_clear_ahead`.
use Rattle.words.specs.Word.{word}
use Rattle.allocation.specs.inner.Takeable.{low_put}
use Rattle.allocation.proofs.Walks.{Walking}
use Rattle.allocation_code.proofs.take.is_clear_ahead.Given as goal

abbrev pub invariant-loop-left : goal.invariant-loop-left
invariant-loop-left l = Walking (low_put l.l (word l.image) l.known) l.next l.n l.n l.wanted l.first l.at l.left l.need
