-- The invariant of `cut_counts_pair_code::pairs::count_pairs`.
use Rattle.cut_counts.proofs.Pairs.{Going}
use Rattle.cut_counts_pair_code.proofs.pairs.count_pairs.Given as goal

abbrev pub invariant-loop-i : goal.invariant-loop-i
invariant-loop-i l =
    Going l.l l.image l.stores.at l.stores.value l.later l.initial.copy l.initial.copy_heads l.initial.copy_next l.copy l.copy_heads l.copy_next l.t l.i
