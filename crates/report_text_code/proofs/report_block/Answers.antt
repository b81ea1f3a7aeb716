-- Answers of `report_text_code::report_block`.
use Prim.Native.Nat.{ℕ}
use mathlib.Core.Path.{sym}
use native.Mathlib.Omega.{arith}
use lib.ListN.{length-replicate}
use Rattle.report_text.proofs.Blocks.{block_start, image_inside, block_image, block_next, block_end}
use Rattle.report_text_code.proofs.report_block.Goals as goal

pub loop-size-init : goal.loop-size-init
loop-size-init c =
    block_start _ _ _ _ _ (length-replicate {A = ℕ} 512 0) c.requires c.readable_size-size.ensures.result

pub overflow_add-after : goal.overflow_add-after
overflow_add-after c =
    omega (arith, image_inside _ _ _ _ _ _ _ _ _ c.loop-size.invariant c.loop-size-test.true)

pub slice_bounds-report_image-count : goal.slice_bounds-report_image-count
slice_bounds-report_image-count c =
    omega (arith, image_inside _ _ _ _ _ _ _ _ _ c.loop-size.invariant c.loop-size-test.true)

pub slice_bounds-report_image-start : goal.slice_bounds-report_image-start
slice_bounds-report_image-start c =
    omega (arith, image_inside _ _ _ _ _ _ _ _ _ c.loop-size.invariant c.loop-size-test.true)

pub slice_bounds-report_image-end : goal.slice_bounds-report_image-end
slice_bounds-report_image-end c =
    omega (arith, image_inside _ _ _ _ _ _ _ _ _ c.loop-size.invariant c.loop-size-test.true)

pub slice_bounds-report_image-end-in-loop-size : goal.slice_bounds-report_image-end-in-loop-size
slice_bounds-report_image-end-in-loop-size c =
    sym c.loop-size.invariant.next_size

pub report_image-reported-requires : goal.report_image-reported-requires
report_image-reported-requires c =
    block_image _ _ _ _ _ _ _ _ _ c.loop-size.invariant c.loop-size-test.true c.requires.room

pub slice_bounds-readable_size-count : goal.slice_bounds-readable_size-count
slice_bounds-readable_size-count c =
    omega (arith, image_inside _ _ _ _ _ _ _ _ _ c.loop-size.invariant c.loop-size-test.true)

pub slice_bounds-readable_size-start : goal.slice_bounds-readable_size-start
slice_bounds-readable_size-start c =
    omega (arith, image_inside _ _ _ _ _ _ _ _ _ c.loop-size.invariant c.loop-size-test.true)

pub slice_bounds-readable_size-end : goal.slice_bounds-readable_size-end
slice_bounds-readable_size-end c =
    omega (arith, image_inside _ _ _ _ _ _ _ _ _ c.loop-size.invariant c.loop-size-test.true)

pub loop-size-smaller : goal.loop-size-smaller
loop-size-smaller c =
    omega (arith, image_inside _ _ _ _ _ _ _ _ _ c.loop-size.invariant c.loop-size-test.true, c.loop-size-test.true)

pub loop-size-preserved : goal.loop-size-preserved
loop-size-preserved c =
    block_next _ _ _ _ _ _ _ _ _ c.loop-size.invariant c.loop-size-test.true _ _ _ c.report_image-reported.ensures.result c.report_image-reported.auto.out
    c.report_image-reported.auto.next c.requires.room _
    c.readable_size-size-in-loop-size.ensures.result

pub shape_of-out : goal.shape_of-out
shape_of-out c =
    c.loop-size.invariant.out_size

pub returns : goal.returns
returns c =
    record { reported = (block_end _ _ _ _ _ _ _ _ _ c.loop-size.invariant c.loop-size-test.false) }
