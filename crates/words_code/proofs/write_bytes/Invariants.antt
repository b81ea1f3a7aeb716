-- Invariants and measures of `words_code::write_bytes`.
use mathlib.Core.Path.{◌≡◌, refl, sym, ◌∙◌}
use Prim.Native.Nat.{◌+◌, ◌-◌, ◌≤◌}
use native.Mathlib.Nat.{add-zero, sub-zero}
use lib.ListN.{length, length-set}
use borrow.Author.Rules.{rules}
use Rattle.words.specs.Word.{set_bytes}
use Rattle.words.proofs.Laws.{byte_next, bytes_done}
use Rattle.words_code.proofs.write_bytes.Given as goal

-- `words_code::write_bytes` meets its contract. Assumes nothing.
-- the bytes that are left to be stored make the whole
abbrev pub invariant-loop-k : goal.invariant-loop-k
invariant-loop-k l =
    (l.k ≤ l.n) × (length l.image ≡ length l.initial.image) × (set_bytes l.image (l.at + l.k) (l.n - l.k) l.rest ≡ set_bytes l.initial.image l.at l.n l.v)
