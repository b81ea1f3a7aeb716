-- Answers of `allocation_code::choose::choose_unrefused`.
use native.Mathlib.Omega.{arith}
use Rattle.layout.specs.Content.{contents_of}
use Rattle.table.specs.Takeable.{may_take_after}
use Rattle.allocation.specs.Allocation.{allocation_chosen}
use Rattle.allocation.proofs.Takes.{choice_fine}
use Rattle.allocation.proofs.Choices.{choosing_starts, meetable, choosing_on, choice_ends, met_left}
use Rattle.allocation_code.proofs.choose.choose_unrefused.Goals as goal

pub loop-p-init : goal.loop-p-init
loop-p-init c =
    (choosing_starts _ _ _ _ _ _ _ c.ranges.first.fits, c.requires.3)

pub meet-p-requires : goal.meet-p-requires
unfolding allocation_chosen
meet-p-requires c = (
  c.requires.0,
  meetable _ _ _ _ _ _ c.loop-p.invariant.0 (choice_fine _ _ _ _ _ _ c.requires.1 c.requires.4) c.requires.2 c.loop-p-test.true,
  c.loop-p.invariant.1,
)

pub loop-p-smaller : goal.loop-p-smaller
unfolding allocation_chosen
loop-p-smaller c =
    omega (
      arith,
      met_left (may_take_after (contents_of c.args.l c.args.image.now) c.args.n) c.args.next.now _ _ c.meet-p.ensures.is,
      (meetable _ _ _ _ _ _ c.loop-p.invariant.0 (choice_fine _ _ _ _ _ _ c.requires.1 c.requires.4) c.requires.2 c.loop-p-test.true).some,
    )

pub loop-p-preserved : goal.loop-p-preserved
unfolding allocation_chosen
loop-p-preserved c = (
  choosing_on _ _ _ _ _ _ c.loop-p.invariant.0 c.requires.2 c.loop-p-test.true
      (meetable _ _ _ _ _ _ c.loop-p.invariant.0 (choice_fine _ _ _ _ _ _ c.requires.1 c.requires.4) c.requires.2 c.loop-p-test.true)
      (c.shared_slice_known-2-1.given _).fits _ c.meet-p.ensures.is,
  c.meet-p.ensures.known,
)

pub returns : goal.returns
unfolding allocation_chosen
returns c =
    choice_ends _ _ _ _ _ _ c.loop-p.invariant.0 (choice_fine _ _ _ _ _ _ c.requires.1 c.requires.4) _ c.requires.4 c.loop-p-test.false
