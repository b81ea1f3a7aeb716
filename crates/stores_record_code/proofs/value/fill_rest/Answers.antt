-- Answers of `stores_record_code::value::fill_rest`.
use mathlib.Core.Path.{refl}
use native.Mathlib.Omega.{arith}
use borrow.Author.Rules.{rules}
use Rattle.stores_record_code.proofs.value.fill_rest.Goals as goal

-- `stores_record_code::value::fill_rest` meets its contract. Assumes nothing.
pub value_place-place-requires : goal.value_place-place-requires
value_place-place-requires c =
    (c.requires.0, omega (arith, c.requires.0.high))

pub returns : goal.returns
returns c =
    (refl, rw (c.value_place-place.ensures.result.0, c.padded_word.ensures.result))
