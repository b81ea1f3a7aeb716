-- Answers of `cut_counts_pair_code::pairs::copy_bytes`.
use mathlib.Core.Path.{sym, refl}
use native.Mathlib.Omega.{arith}
use Rattle.prelude.proofs.Fills.{fill_start, fill_turn, fill_end}
use Rattle.cut_counts_pair_code.proofs.pairs.copy_bytes.Goals as goal

pub loop-k-init : goal.loop-k-init
loop-k-init c =
    fill_start _ _ (sym c.requires)

pub loop-k-preserved : goal.loop-k-preserved
loop-k-preserved c =
    fill_turn _ _ _ _ _ (omega arith) refl c.loop-k.invariant

pub returns : goal.returns
returns c =
    fill_end _ _ _ _ (omega arith) c.loop-k.invariant
