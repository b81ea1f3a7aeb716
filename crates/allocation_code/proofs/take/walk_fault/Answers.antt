-- Answers of `allocation_code::take::walk_fault`.
use Rattle.allocation.proofs.Walks.{at-end, above, over, last_here, took_one, on}
use Rattle.allocation_code.proofs.take.walk_fault.Goals as goal

pub returns-then-at-eq0 : goal.returns-then-at-eq0
returns-then-at-eq0 c =
    at-end _ _ _ _ _ _ _ _ _ c.loop-left.invariant c.if-at-eq0.true

pub returns-then-n-slot : goal.returns-then-n-slot
returns-then-n-slot c =
    above _ _ _ _ _ _ _ _ _ c.loop-left.invariant c.if-n-slot.true

pub returns-then-need-eq1 : goal.returns-then-need-eq1
returns-then-need-eq1 c =
    last_here _ _ _ _ _ _ _ _ _ c.loop-left.invariant c.loop-left-test.true c.if-at-eq0.false
    c.if-n-slot.false _ c.may_take.ensures.result c.if-may_take.true c.if-need-eq1.true _
    c.end_fault.ensures.result

pub loop-left-preserved-then-may_take : goal.loop-left-preserved-then-may_take
loop-left-preserved-then-may_take c =
    took_one _ _ _ _ _ _ _ _ _ c.loop-left.invariant c.loop-left-test.true c.if-at-eq0.false
    c.if-n-slot.false _ c.may_take.ensures.result c.if-may_take.true c.if-need-eq1.false
    (c.shared_slice_known-2-1.given _).fits

pub loop-left-preserved : goal.loop-left-preserved
loop-left-preserved c =
    on _ _ _ _ _ _ _ _ _ c.loop-left.invariant c.loop-left-test.true c.if-at-eq0.false c.if-n-slot.false
    _ c.may_take.ensures.result c.if-may_take.false
    (c.shared_slice_known-2-1.given _).fits

pub returns-then-at-eq0-2 : goal.returns-then-at-eq0-2
returns-then-at-eq0-2 c =
    at-end _ _ _ _ _ _ _ _ _ c.loop-left.invariant c.if-at-eq0-2.true

pub returns : goal.returns
returns c =
    over _ _ _ _ _ _ _ _ _ c.loop-left.invariant c.loop-left-test.false c.if-at-eq0-2.false
