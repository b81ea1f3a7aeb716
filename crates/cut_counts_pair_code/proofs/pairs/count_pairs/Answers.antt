-- Answers of `cut_counts_pair_code::pairs::count_pairs`.
use mathlib.Core.Path.{refl}
use native.Mathlib.Omega.{arith}
use Rattle.cut_counts.proofs.Pairs.{going_first, going_copy, going_fits, going_length, going_low, going_next, going_last}
use Rattle.cut_counts_pair_code.proofs.pairs.count_pairs.Goals as goal

pub loop-i-init : goal.loop-i-init
loop-i-init c =
    going_first _ _ _ _ _ _ _ _ _ refl refl

pub cut_copy-cut-requires : goal.cut_copy-cut-requires
cut_copy-cut-requires c = (
  c.requires.indexed.0,
  going_copy _ _ _ _ _ _ _ _ _ _ _ _ _ c.loop-i.invariant c.requires.indexed.3,
  going_fits _ _ _ _ _ _ _ _ _ _ _ _ _ c.loop-i.invariant
      c.requires.indexed.4,
)

pub have_one_map-x-requires : goal.have_one_map-x-requires
have_one_map-x-requires c =
    record { indexed = ((c.requires.indexed.0, c.requires.indexed.1, c.cut_copy-cut.ensures.result.1)) }

pub have_one_map-y-requires : goal.have_one_map-y-requires
have_one_map-y-requires c =
    record { indexed = ((c.requires.indexed.0, c.requires.indexed.2, c.cut_copy-cut.ensures.result.1)) }

pub with_pair-t-requires : goal.with_pair-t-requires
with_pair-t-requires c =
    let low = going_low _ _ _ _ _ _ _ _ _ _ _ _ _ c.loop-i.invariant in
    (omega (arith, low.0, c.loop-i-test.true), omega (arith, low.1, c.loop-i-test.true))

pub loop-i-preserved : goal.loop-i-preserved
loop-i-preserved c =
    going_next _ _ _ _ _ _ _ _ _ _ _ _ _ c.loop-i.invariant c.loop-i-test.true _ _ _ c.cut_copy-cut.ensures.result.0
    c.cut_copy-cut.auto.heads c.cut_copy-cut.auto.next _ _ c.have_one_map-x.ensures.result
    c.have_one_map-y.ensures.result _ c.with_pair-t.ensures

pub shape_of-copy : goal.shape_of-copy
shape_of-copy c =
    going_length _ _ _ _ _ _ _ _ _ _ _ _ _ c.loop-i.invariant c.requires.indexed.3

pub shape_of-copy_heads : goal.shape_of-copy_heads
shape_of-copy_heads c =
    c.loop-i.invariant.same_heads

pub shape_of-copy_next : goal.shape_of-copy_next
shape_of-copy_next c =
    c.loop-i.invariant.same_next

pub returns : goal.returns
returns c =
    record { result = (going_last _ _ _ _ _ _ _ _ _ _ _ _ _ c.loop-i.invariant c.loop-i-test.false) }
