-- Answers of `words_code::write_bytes`.
use mathlib.Core.Path.{◌≡◌, refl, sym, ◌∙◌}
use Prim.Native.Nat.{◌+◌, ◌-◌, ◌≤◌}
use native.Mathlib.Nat.{add-zero, sub-zero}
use lib.ListN.{length, length-set}
use borrow.Author.Rules.{rules}
use Rattle.words.specs.Word.{set_bytes}
use Rattle.words.proofs.Laws.{byte_next, bytes_done}
use Rattle.words_code.proofs.write_bytes.Goals as goal

pub loop-k-init : goal.loop-k-init
loop-k-init c =
    (search rules, refl, simp (add-zero, sub-zero))

pub loop-k-preserved : goal.loop-k-preserved
loop-k-preserved c =
    (search rules, simp length-set c.loop-k.invariant.1, sym (byte_next _ _ _ _ _ c.loop-k-test.true) ∙ c.loop-k.invariant.2)

pub shape_of-image : goal.shape_of-image
shape_of-image c =
    c.loop-k.invariant.1

pub returns : goal.returns
returns c =
    sym (bytes_done _ _ _ _ _ c.loop-k-test.false) ∙ c.loop-k.invariant.2
