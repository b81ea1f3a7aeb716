-- Answers of `layout_code::value::copy_step`.
use mathlib.Core.Path.{refl, ap, ◌∙◌}
use Prim.Native.Nat.{ℕ}
use borrow.Author.Rules.{rules}
use Rattle.words.specs.Word.{set_bytes}
use Rattle.layout_code.proofs.value.copy_step.Goals as goal

-- `layout_code::value::copy_step` meets its contract. Assumes nothing.
pub returns : goal.returns
returns c =
    (refl, rw c.value_word.ensures.result at c.write_part.ensures.result)
