-- The invariant of `cut_counts_pair_code::pairs::copy_bytes`.
use lib.ListN.{length}
use Rattle.prelude.proofs.Fills.{Filling}
use Rattle.cut_counts_pair_code.proofs.pairs.copy_bytes.Given as goal

abbrev pub invariant-loop-k : goal.invariant-loop-k
invariant-loop-k l = Filling l.from l.to (length l.initial.to) l.k
