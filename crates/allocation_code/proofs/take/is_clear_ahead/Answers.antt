-- Answers of `allocation_code::take::is_clear_ahead`.
use mathlib.Core.Path.{sym, ◌∙◌}
use native.Mathlib.Omega.{arith}
use borrow.Author.Tests.{eqb-true}
use Rattle.allocation.proofs.Walks.{last_here, took_one, on}
use Rattle.allocation.proofs.Takes.{taken_ahead, taken_low}
use Rattle.allocation_code.proofs.take.is_clear_ahead.Goals as goal

pub returns-then-known-eq0 : goal.returns-then-known-eq0
returns-then-known-eq0 c =
    λ e.
    sym
    (taken_ahead _ c.args.image.now c.args.next.now _ _ _ c.requires.1 _ _ _ c.requires.2 c.few_of.ensures
    c.walk_fault.ensures (eqb-true _ _ e))
    ∙ eqb-true _ _ e

pub returns-then-need-eq1 : goal.returns-then-need-eq1
returns-then-need-eq1 c =
    λ e.
    sym
    (taken_low _ c.args.image.now c.args.next.now _ _ _ c.requires.1 _ c.args.n _ c.requires.2 (omega arith)
    (last_here _ _ _ _ _ _ _ _ _ c.loop-left.invariant c.loop-left-test.true c.if-slot-eq0.false
    c.if-n-slot.false _ c.is_low.ensures.result c.if-is_low.true c.if-need-eq1.true _
    c.end_fault.ensures.result) (eqb-true _ _ e))
    ∙ eqb-true _ _ e

pub loop-left-preserved-then-is_low : goal.loop-left-preserved-then-is_low
loop-left-preserved-then-is_low c =
    took_one _ _ _ _ _ _ _ _ _ c.loop-left.invariant c.loop-left-test.true c.if-slot-eq0.false
    c.if-n-slot.false _ c.is_low.ensures.result c.if-is_low.true c.if-need-eq1.false
    (c.shared_slice_known-2-1.given _).fits

pub loop-left-preserved : goal.loop-left-preserved
loop-left-preserved c =
    on _ _ _ _ _ _ _ _ _ c.loop-left.invariant c.loop-left-test.true c.if-slot-eq0.false
    c.if-n-slot.false _ c.is_low.ensures.result c.if-is_low.false (c.shared_slice_known-2-1.given _).fits
