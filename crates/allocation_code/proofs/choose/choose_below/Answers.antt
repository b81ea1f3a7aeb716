-- Answers of `allocation_code::choose::choose_below`.
use mathlib.Core.Path.{refl}
use native.Mathlib.Omega.{arith}
use Rattle.allocation.proofs.Choices.{choosing_starts, choice_at_end, choice_above, choice_over, meetable_here, below_on, below_left}
use Rattle.allocation.proofs.Choices.{choice_end_refused, choice_done}
use Rattle.allocation_code.proofs.choose.choose_below.Goals as goal
use Rattle.allocation_code.proofs.choose.choose_below.Goals.{then-n-p-via-then-n-p, then-n-p-via-else-n-p+then-p-eq0-2}

pub loop-p-init : goal.loop-p-init
loop-p-init c =
    (choosing_starts _ _ _ _ _ _ _ c.ranges.first.fits, refl)

pub returns-then-p-eq0 : goal.returns-then-p-eq0
returns-then-p-eq0 c =
    record { result = (choice_at_end _ _ _ _ _ _ c.loop-p.invariant.0 c.loop-p-test.true _ c.if-p-eq0.true c.none_chosen.ensures.result) }

pub returns-then-n-p : goal.returns-then-n-p
returns-then-n-p c =
    record {
      result = elim c.then-n-p.branch [
        | then-n-p-via-then-n-p w ↦ choice_above _ _ _ _ _ _ c.loop-p.invariant.0 c.loop-p-test.true _ w.if-n-p.true c.none_chosen-then-n-p.ensures.result
        | then-n-p-via-else-n-p+then-p-eq0-2 w ↦ choice_over _ _ _ _ _ _ c.loop-p.invariant.0 c.loop-p-test.true _ c.if-p-eq0.false w.if-p-eq0-2.true
            c.none_chosen-then-n-p.ensures.result
      ];
    }

pub loop-p-smaller : goal.loop-p-smaller
loop-p-smaller c =
    omega (
      arith,
      below_left _ _ _ _ _ c.meet_below-p.ensures,
      (meetable_here _ _ _ _ _ _ c.loop-p.invariant.0 c.requires.2 c.loop-p-test.true c.if-p-eq0.false
          c.if-n-p.false
          c.if-p-eq0-2.false).some,
    )

pub loop-p-preserved : goal.loop-p-preserved
loop-p-preserved c =
    below_on _ _ _ _ _ _ _ _ c.loop-p.invariant c.requires.2 c.loop-p-test.true
    (meetable_here _ _ _ _ _ _ c.loop-p.invariant.0 c.requires.2 c.loop-p-test.true c.if-p-eq0.false c.if-n-p.false
    c.if-p-eq0-2.false)
    (c.shared_slice_known-2-1.given _).fits _ c.meet_below-p.ensures

pub returns-then-fault-ne0 : goal.returns-then-fault-ne0
returns-then-fault-ne0 c =
    record {
      result = (choice_end_refused _ _ _ _ _ _ c.loop-p.invariant.0 c.loop-p-test.false _ c.end_fault-fault.ensures.result _
          c.none_chosen-then-fault-ne0.ensures.result
          c.if-fault-ne0.true);
    }

pub returns : goal.returns
returns c =
    record {
      result = (choice_done _ _ _ _ _ _ c.loop-p.invariant.0 c.loop-p-test.false _ c.end_fault-fault.ensures.result
          c.if-fault-ne0.false);
    }
