-- The invariant of `cut_counts_map_code::values::values_differ`.
use Rattle.words.specs.Word.{word}
use Rattle.layout.specs.Line.{line_a, line_b}
use Rattle.cut_counts.proofs.Values.{SameWords}
use Rattle.cut_counts_map_code.proofs.values.values_differ.Given as goal

abbrev pub invariant-loop-i : goal.invariant-loop-i
invariant-loop-i l =
    SameWords l.l (line_a (word l.first) l.s) (line_b (word l.first) l.s) (line_a (word l.second) l.t) (line_b (word l.second) l.t) l.i
