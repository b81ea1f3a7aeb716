-- Invariants and measures of `layout_code::value::copy_value`.
use mathlib.Core.Path.{◌≡◌}
use Rattle.words.specs.Word.{word}
use Rattle.layout.specs.Line.{line_a, line_b}
use Rattle.layout.specs.Record.{value_byte}
use Rattle.layout.proofs.Copies.{Copied}
use Rattle.layout_code.proofs.value.copy_value.Given as goal

-- so many steps were made, and each moved one word
abbrev pub invariant-loop : goal.invariant-loop
invariant-loop l =
    (l.i ≡ l.counter) × Copied (value_byte l.l (line_a (word l.image) l.s) (line_b (word l.image) l.s)) l.initial.out l.n l.i l.out
