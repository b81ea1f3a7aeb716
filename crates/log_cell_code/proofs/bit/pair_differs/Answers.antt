-- Answers of `log_cell_code::bit::pair_differs`.
use mathlib.Core.Bool.{not}
use mathlib.Core.List.{[]}
use mathlib.Core.Path.{ap}
use Prim.Native.Nat.{ℕ, ◌/◌}
use lib.Dec.{eqb}
use Rattle.message_log.proofs.Pairs.{pair_bit}
use Rattle.log_cell_code.proofs.bit.pair_differs.Goals as goal

pub returns : goal.returns
returns c =
    record {
      result = (ap (λ (x : ℕ). not (eqb x (c.args.pair / 512)))
          (pair_bit c.args.area.now c.args.n [] 0 c.args.pair _ _
          c.requires.1 c.read_word-held.ensures.result c.bit_of.ensures));
    }
