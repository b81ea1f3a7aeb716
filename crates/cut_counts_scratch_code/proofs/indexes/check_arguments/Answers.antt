-- Answers of `cut_counts_scratch_code::indexes::check_arguments`.
use Rattle.std.proofs.Common.{refl}
use Rattle.refusals.proofs.Numbers.{not_zero, handed_on}
use Rattle.cut_counts.proofs.Pairs.{play_refuses, copy_other, later_other, copies_fine}
use Rattle.cut_counts_scratch_code.proofs.indexes.check_arguments.Goals as goal
use Rattle.cut_counts_scratch_code.proofs.indexes.check_arguments.Goals.{then-copy-len-via-then-copy-len, then-copy-len-via-else-copy-len+then-later-len}

pub returns-in_err-check_play : goal.returns-in_err-check_play
returns-in_err-check_play c =
    rw (handed_on _ _ c.from_residual.ensures.1) (play_refuses _ _ _ _ _ c.in_err-check_play.ensures.result (not_zero _))

pub returns-then-copy-len : goal.returns-then-copy-len
returns-then-copy-len c =
    elim c.then-copy-len.branch [
      | then-copy-len-via-then-copy-len w ↦ copy_other _ _ _ _ _ c.in_ok-check_play.ensures.result refl w.if-copy-len.true
      | then-copy-len-via-else-copy-len+then-later-len w ↦
          later_other _ _ _ _ _ c.in_ok-check_play.ensures.result refl w.if-copy-len.false w.if-later-len.true
    ]

pub returns : goal.returns
returns c = copies_fine _ _ _ _ _ c.in_ok-check_play.ensures.result refl c.if-copy-len.false c.if-later-len.false
