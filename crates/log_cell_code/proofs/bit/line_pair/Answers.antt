-- Answers of `log_cell_code::bit::line_pair`.
use native.Mathlib.Omega.{arith}
use Rattle.message_log.proofs.Pairs.{pair_within, pair_none, pair_place, pair_apart, pair_some}
use Rattle.log_cell_code.proofs.bit.line_pair.Goals as goal

pub returns-then-place-eq8 : goal.returns-then-place-eq8
returns-then-place-eq8 c =
    record { result = (pair_none _ _ _ _ _ c.requires.found _ c.if-place-eq8.true c.padded_word.ensures.result) }

pub overflow_add-n : goal.overflow_add-n
overflow_add-n c =
    omega (arith, pair_within _ _ _ _ _ c.requires.found)

pub read_word-old-requires : goal.read_word-old-requires
read_word-old-requires c =
    omega (arith, pair_within _ _ _ _ _ c.requires.found)

pub overflow_add-i : goal.overflow_add-i
overflow_add-i c =
    omega (arith, pair_within _ _ _ _ _ c.requires.found)

pub padded_word-new-requires : goal.padded_word-new-requires
padded_word-new-requires c =
    omega (arith, pair_within _ _ _ _ _ c.requires.found)

pub pair_of-requires : goal.pair_of-requires
pair_of-requires c = (
  pair_apart _ _ _ _ _ c.requires.found _ _ c.if-place-eq8.false c.read_word-old.ensures.result c.padded_word-new.ensures.result,
  pair_place _ _ _ _ _
      c.requires.found _ _ c.if-place-eq8.false c.read_word-old.ensures.result c.padded_word-new.ensures.result,
)

pub returns : goal.returns
returns c =
    record {
      result = (pair_some _ _ _ _ _ c.requires.found _ _ c.if-place-eq8.false
          c.read_word-old.ensures.result c.padded_word-new.ensures.result _ (omega arith) (omega arith) c.pair_of.ensures);
    }
