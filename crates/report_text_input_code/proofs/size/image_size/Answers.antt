-- Answers of `report_text_input_code::size::image_size`.
use native.Mathlib.Omega.{arith}
use Rattle.report_text.proofs.Sizes.{inside_range, size_short, size_outside, size_inside}
use Rattle.report_text_input_code.proofs.size.image_size.Goals as goal

-- `report_text_input_code::size::image_size` meets its contract. Assumes nothing.
pub returns-then-input-lt8 : goal.returns-then-input-lt8
returns-then-input-lt8 c =
    record { result = (size_short _ c.if-input-lt8.true) }

pub returns-then-is_outside : goal.returns-then-is_outside
returns-then-is_outside c =
    record { result = (size_outside _ c.if-input-lt8.false _ c.read_word-n.ensures.result _ c.is_outside.ensures c.if-is_outside.true) }

pub overflow_add-result : goal.overflow_add-result
overflow_add-result c =
    omega (arith, (inside_range _ _ c.is_outside.ensures c.if-is_outside.false).1)

pub overflow_mul-result : goal.overflow_mul-result
overflow_mul-result c =
    omega (arith, (inside_range _ _ c.is_outside.ensures c.if-is_outside.false).1)

pub returns : goal.returns
returns c =
    record { result = (size_inside _ c.if-input-lt8.false _ c.read_word-n.ensures.result _ c.is_outside.ensures c.if-is_outside.false) }
