-- Invariants and measures of `allocation_code::choose::choose_unrefused`.
use Rattle.words.specs.Word.{word}
use Rattle.layout.specs.Content.{contents_of}
use Rattle.table.specs.Takeable.{may_take_after}
use Rattle.allocation.specs.inner.Choice.{KnownTop}
use Rattle.allocation.proofs.Choices.{Choosing}
use Rattle.allocation_code.proofs.choose.choose_unrefused.Given as goal

-- `allocation_code::choose::choose_unrefused` meets its contract. Assumes nothing.
abbrev pub invariant-loop-p : goal.invariant-loop-p
invariant-loop-p l =
    Choosing (may_take_after (contents_of l.l l.image) l.n) l.next l.n l.first l.wanted l.p × KnownTop (word l.image) l.n l.p.top l.p.exact

abbrev pub decreases-loop-p : goal.decreases-loop-p
decreases-loop-p l = l.p.left
