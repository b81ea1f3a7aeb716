-- Answers of `log_cell_code::bit::pair_of`.
use native.Mathlib.Omega.{arith}
use lib.Bits.{bit_xor}
use lib.Count.{trailing_le}
use Rattle.message_log.proofs.Differences.{last_place, bit_low}
use Rattle.message_log.proofs.Pairs.{pair_sum}
use Rattle.log_cell_code.proofs.bit.pair_of.Goals as goal

pub bit_of-requires : goal.bit_of-requires
bit_of-requires c =
    omega (arith, c.differing_bit-t.ensures, last_place 64 _ _ (omega arith) (omega arith) c.requires.0)

pub overflow_mul-result-2 : goal.overflow_mul-result-2
overflow_mul-result-2 c =
    omega (arith, c.bit_of.ensures, bit_low c.args.new c.differing_bit-t.result)

pub overflow_add-result-2 : goal.overflow_add-result-2
overflow_add-result-2 c =
    omega (
      arith,
      c.bit_of.ensures,
      bit_low c.args.new c.differing_bit-t.result,
      c.differing_bit-t.ensures,
      trailing_le 64 (bit_xor c.args.old c.args.new),
    )

pub returns : goal.returns
returns c =
    pair_sum c.args.old c.args.new _ _ _ c.differing_bit-t.ensures c.bit_of.ensures
