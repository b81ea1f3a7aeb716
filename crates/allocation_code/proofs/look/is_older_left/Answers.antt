-- Answers of `allocation_code::look::is_older_left`.
use mathlib.Core.Path.{◌∙◌}
use borrow.Author.Tests.{ne_eqb}
use Rattle.words.specs.Word.{word}
use Rattle.allocation.proofs.Looks.{left_other, left_remove}
use Rattle.allocation_code.proofs.look.is_older_left.Goals as goal

pub returns-then-slot_kind-eq2 : goal.returns-then-slot_kind-eq2
returns-then-slot_kind-eq2 c =
    left_remove _ (word c.args.image.now) _ _ _ c.slot_kind.ensures.result c.requires.0.layout c.if-slot_kind-eq2.true _
    c.valid_version.ensures.result _ _ c.slot_low.ensures.result
    c.slot_high.ensures.result _ c.is_older.ensures.result

pub returns-else-slot_kind-eq2 : goal.returns-else-slot_kind-eq2
returns-else-slot_kind-eq2 c =
    ne_eqb _ _ c.if-slot_kind-eq2.false ∙ left_other _ (word c.args.image.now) _ _ _ c.slot_kind.ensures.result c.if-slot_kind-eq2.false
