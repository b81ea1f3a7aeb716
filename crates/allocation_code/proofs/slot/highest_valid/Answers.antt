-- Answers of `allocation_code::slot::highest_valid`.
use mathlib.Core.Path.{refl}
use native.Mathlib.Omega.{arith}
use borrow.Author.Rules.{rules}
use Rattle.words.specs.Word.{word}
use Rattle.prelude.specs.Range.{greatest}
use Rattle.allocation.specs.inner.Takeable.{slot_version}
use Rattle.allocation.proofs.Tested.{greatest_next}
use Rattle.allocation_code.proofs.slot.highest_valid.Goals as goal

pub loop-s-init : goal.loop-s-init
unfolding greatest
loop-s-init c =
    refl

pub loop-s-preserved : goal.loop-s-preserved
loop-s-preserved c =
    greatest_next (slot_version (word c.args.image.now)) c.loop-s.s c.loop-s.top c.valid_version.result _ (omega arith) c.loop-s.invariant
    c.valid_version.ensures.result (search rules)
