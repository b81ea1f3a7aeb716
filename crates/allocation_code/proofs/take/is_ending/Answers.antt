-- Answers of `allocation_code::take::is_ending`.
use borrow.Author.Tests.{eqb-true}
use Rattle.allocation.proofs.Looks.{ending_starts, ending_here, ending_on}
use Rattle.allocation_code.proofs.take.is_ending.Goals as goal

pub loop-left-init : goal.loop-left-init
loop-left-init c =
    ending_starts _ _ _ _ c.few_of-left.ensures c.ranges.first.fits

pub returns-then-at-eq0 : goal.returns-then-at-eq0
returns-then-at-eq0 c =
    λ e. ending_here _ _ _ _ _ _ c.loop-left.invariant c.if-at-eq0.true

pub loop-left-preserved : goal.loop-left-preserved
loop-left-preserved c =
    ending_on _ _ _ _ _ _ c.loop-left.invariant c.loop-left-test.true c.if-at-eq0.false c.if-n-slot.false
    (c.shared_slice_known-1.given _).fits

pub returns : goal.returns
returns c =
    λ e. ending_here _ _ _ _ _ _ c.loop-left.invariant (eqb-true _ _ e)
