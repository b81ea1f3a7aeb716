-- Answers of `index_write_code::change::insert_new`.
use native.Mathlib.Omega.{arith}
use Rattle.index.proofs.Writes.{taken_live, taken_version, insert-new}
use Rattle.index_write_code.proofs.change.insert_new.Goals as goal

pub overflow_add-result : goal.overflow_add-result
overflow_add-result c =
    omega (arith, taken_live _ _ _ c.take-rest.ensures, c.requires.1)

pub overflow_add-result-2 : goal.overflow_add-result-2
overflow_add-result-2 c =
    omega (arith, taken_version _ _ _ c.take-rest.ensures, c.requires.0.version_fits)

pub returns : goal.returns
returns c =
    insert-new _ _ _ _ _ _ c.take-rest.ensures _ _ c.link.ensures.result.0 c.link.ensures.result.1
