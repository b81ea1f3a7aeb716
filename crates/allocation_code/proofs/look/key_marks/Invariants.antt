-- Invariants of `allocation_code::look::key_marks`.
use Rattle.words.specs.Word.{word}
use Rattle.allocation.specs.inner.Choice.{Marked}
use Rattle.allocation_code.proofs.look.key_marks.Given as goal

abbrev pub invariant-loop-slot : goal.invariant-loop-slot
invariant-loop-slot l = Marked (word l.image) l.fn.slots l.marks l.slot-index
