-- Invariants and measures of `layout_fields_code::fields::tail_fault`.
use Prim.Native.Nat.{◌-◌}
use native.Mathlib.Omega.{arith}
use borrow.Author.Rules.{rules}
use Rattle.words.specs.Word.{word}
use Rattle.layout.specs.Line.{line_a, line_b}
use Rattle.layout.specs.Fault.{tail_fault}
use Rattle.layout.proofs.Tails.{TailLeft, left_start, left_hit, left_next, left_end}
use Rattle.layout_fields_code.proofs.fields.tail_fault.Given as goal

-- `layout_fields_code::fields::tail_fault` meets its contract. Assumes nothing.
abbrev pub invariant-loop-i : goal.invariant-loop-i
invariant-loop-i l = TailLeft l.l (line_a (word l.image) l.s) (line_b (word l.image) l.s) l.size l.i l.bits

abbrev pub decreases-loop-i : goal.decreases-loop-i
decreases-loop-i l = l.words - l.i
