-- Answers of `layout_fields_code::fields::has_key`.
use mathlib.Core.Path.{◌∙◌}
use borrow.Author.Tests.{ne_eqb}
use Rattle.words.proofs.Laws.{word_range}
use Rattle.layout.proofs.KeyWords.{other_low, by_high}
use Rattle.layout_fields_code.proofs.fields.has_key.Goals as goal

-- `layout_fields_code::fields::has_key` meets its contract. Assumes nothing.
pub returns-else-slot_low-low : goal.returns-else-slot_low-low
returns-else-slot_low-low c =
    record {
      result = (ne_eqb _ _ c.if-slot_low-low.false ∙ other_low _ _ c.requires.layout (word_range _ _ (λ i. (c.type_inv.image i).fits)) _ _ c.ranges.low.fits _
          c.slot_low.ensures.result c.if-slot_low-low.false);
    }

pub returns-then-slot_low-low : goal.returns-then-slot_low-low
returns-then-slot_low-low c =
    record {
      result = (by_high _ _ c.requires.layout (word_range _ _ (λ i. (c.type_inv.image i).fits)) _ _ c.ranges.low.fits _ _
          c.slot_low.ensures.result c.if-slot_low-low.true c.slot_high.ensures.result);
    }
