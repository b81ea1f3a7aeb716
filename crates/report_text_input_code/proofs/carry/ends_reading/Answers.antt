-- Answers of `report_text_input_code::carry::ends_reading`.
use mathlib.Core.Path.{◌∙◌}
use borrow.Author.Tests.{eq-eqb, lt-leb}
use Rattle.report_text.proofs.Fronts.{ends_none, ends_short, ends_size}
use Rattle.report_text_input_code.proofs.carry.ends_reading.Goals as goal

-- `report_text_input_code::carry::ends_reading` meets its contract. Assumes nothing.
pub returns-then-left-eq0 : goal.returns-then-left-eq0
returns-then-left-eq0 c =
    record { result = eq-eqb _ 0 c.if-left-eq0.true ∙ ends_none _ _ c.if-left-eq0.true }

pub returns-then-rest-ge8 : goal.returns-then-rest-ge8
returns-then-rest-ge8 c =
    record { result = ends_size _ _ c.if-left-eq0.false c.if-rest-ge8.true _ c.image_size.ensures.result }

pub returns-else-rest-ge8 : goal.returns-else-rest-ge8
returns-else-rest-ge8 c =
    record { result = lt-leb 8 _ c.if-rest-ge8.false ∙ ends_short _ _ c.if-left-eq0.false c.if-rest-ge8.false }
