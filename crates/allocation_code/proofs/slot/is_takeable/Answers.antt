-- Answers of `allocation_code::slot::is_takeable`.
use borrow.Author.Rules.{rules}
use Rattle.words.specs.Word.{word}
use Rattle.allocation.proofs.Tested.{may_invalid, may_high, may_put, may_blind, may_looked}
use Rattle.allocation_code.proofs.slot.is_takeable.Goals as goal

pub returns-in-0 : goal.returns-in-0
returns-in-0 c =
    may_invalid _ (word c.args.image.now) _ _ _ _ _ c.valid_version.ensures.result c.in-0.is

pub returns-in_default : goal.returns-in_default
returns-in_default c =
    may_high _ (word c.args.image.now) _ _ _ _ _ c.valid_version.ensures.result (search rules) c.if-top-version.true

pub returns-in_default-2 : goal.returns-in_default-2
returns-in_default-2 c =
    may_put _ (word c.args.image.now) _ _ _ _ _ c.valid_version.ensures.result (search rules) c.if-top-version.false _ c.slot_kind.ensures.result
    c.if-slot_kind-ne2.true

pub returns-in_default-3 : goal.returns-in_default-3
returns-in_default-3 c =
    may_looked _ (word c.args.image.now) _ _ _ _ _ c.valid_version.ensures.result (search rules) c.if-top-version.false _ c.slot_kind.ensures.result
    c.requires.0.layout c.if-slot_kind-ne2.false c.if-scan.true _ _ c.slot_low-low.ensures.result c.slot_high-high.ensures.result _ c.has_older.ensures

pub returns-in_default-4 : goal.returns-in_default-4
returns-in_default-4 c =
    may_blind _ (word c.args.image.now) _ _ _ _ _ c.valid_version.ensures.result (search rules) c.if-top-version.false _ c.slot_kind.ensures.result
    c.if-slot_kind-ne2.false c.if-scan.false
