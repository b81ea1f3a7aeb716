-- Answers of `allocation_code::choose::may_take_after`.
use mathlib.Core.Path.{◌∙◌}
use borrow.Author.Tests.{le-ltb}
use Rattle.allocation.proofs.Tested.{after_sure, after_high, after_looked}
use Rattle.allocation_code.proofs.choose.may_take_after.Goals as goal

pub returns-then-may_take : goal.returns-then-may_take
returns-then-may_take c =
    after_sure _ _ _ _ _ _ _ c.may_take.ensures.result c.if-may_take.true

pub returns-then-version-top : goal.returns-then-version-top
returns-then-version-top c =
    after_looked _ _ _ _ _ _ _ c.may_take.ensures.result c.if-may_take.false _
    c.valid_version-version.ensures.result c.if-version-top.true c.requires.0.layout _ _ c.slot_low.ensures.result
    c.slot_high.ensures.result _ c.is_older_chosen.ensures

pub returns-else-version-top : goal.returns-else-version-top
returns-else-version-top c =
    le-ltb _ _ c.if-version-top.false
    ∙ after_high _ _ _ _ _ _ _ c.may_take.ensures.result c.if-may_take.false _ c.valid_version-version.ensures.result c.if-version-top.false
