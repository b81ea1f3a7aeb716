-- Answers of `cut_counts_scratch_code::scratch::count_sized`.
use native.Mathlib.Omega.{arith}
use Rattle.cut_counts.proofs.Pairs.{zeros_fit}
use Rattle.cut_counts_scratch_code.proofs.scratch.count_sized.Goals as goal

pub count_with_indexes-requires : goal.count_with_indexes-requires
count_with_indexes-requires g c =
    let fit = zeros_fit _ g.row.N _ c.requires.1 c.requires.2 c.requires.3 in (c.requires.0, fit, fit, fit)
