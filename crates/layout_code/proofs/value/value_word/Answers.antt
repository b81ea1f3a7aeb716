-- Answers of `layout_code::value::value_word`.
use Rattle.layout.proofs.Places.{value-word}
use Rattle.layout_code.proofs.value.value_word.Goals as goal

-- `layout_code::value::value_word` meets its contract. Assumes nothing.
pub returns : goal.returns
returns c =
    record { result = (value-word _ _ _ _ _ _ c.value_place.ensures.result.0 c.value_place.ensures.result.1 c.read_word.ensures.result) }
