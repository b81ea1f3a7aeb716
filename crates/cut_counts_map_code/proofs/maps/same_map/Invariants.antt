-- The invariant of `cut_counts_map_code::maps::same_map`.
use Rattle.cut_counts.proofs.Slots.{Passed}
use Rattle.cut_counts_map_code.proofs.maps.same_map.Given as goal

abbrev pub invariant-loop-s : goal.invariant-loop-s
invariant-loop-s l = Passed l.l l.first l.second l.s
