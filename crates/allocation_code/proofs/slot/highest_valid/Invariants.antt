-- Invariants of `allocation_code::slot::highest_valid`.
use Rattle.std.proofs.Common.{◌≡◌, ◌-◌}
use Rattle.words.specs.Word.{word}
use Rattle.prelude.specs.Range.{greatest}
use Rattle.allocation.specs.inner.Takeable.{slot_version}
use Rattle.allocation_code.proofs.slot.highest_valid.Given as goal

abbrev pub invariant-loop-s : goal.invariant-loop-s
invariant-loop-s l = l.top ≡ greatest (slot_version (word l.image)) (l.s - 1)
