-- Answers of `report_text_input_code::size::readable_size`.
use mathlib.Core.Logic.{inl, inr}
use Rattle.report_text.proofs.Sizes.{readable_none, readable_part, readable_whole}
use Rattle.report_text_input_code.proofs.size.readable_size.Goals as goal

-- `report_text_input_code::size::readable_size` meets its contract. Assumes nothing.
pub returns-then-input-size : goal.returns-then-input-size
returns-then-input-size c =
    elim c.if-input-size.either [
      | inl none ↦ record { result = readable_none _ _ none }
      | inr (some, part) ↦ record { result = readable_part _ _ some _ c.image_size-size.ensures.result part }
    ]

pub returns-else-input-size : goal.returns-else-input-size
returns-else-input-size c =
    record { result = readable_whole _ _ c.if-input-size.false.0 _ c.image_size-size.ensures.result c.if-input-size.false.1 }
