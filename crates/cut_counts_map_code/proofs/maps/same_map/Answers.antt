-- Answers of `cut_counts_map_code::maps::same_map`.
use native.Mathlib.Omega.{arith}
use Rattle.cut_counts.proofs.Slots.{own_sized, slot_apart, slot_passed, live_apart, all_passed}
use Rattle.cut_counts_map_code.proofs.maps.same_map.Goals as goal

pub returns-then-first_live-second_live : goal.returns-then-first_live-second_live
returns-then-first_live-second_live c =
    live_apart _ _ _ _ _ _ _ _ _ c.requires.1 c.requires.2 c.if-first_live-second_live.true

pub slot_low-low-requires : goal.slot_low-low-requires
slot_low-low-requires c =
    omega (arith, (own_sized _ _ _ _ c.requires.1.index _ c.slot_count-s-end.ensures.result).image-size, c.loop-s-test.true)

pub slot_high-high-requires : goal.slot_high-high-requires
slot_high-high-requires c =
    record {
      layout = c.requires.0;
      room = omega
          (arith, (own_sized _ _ _ _ c.requires.1.index _ c.slot_count-s-end.ensures.result).image-size, c.loop-s-test.true);
    }

pub returns-then-differ_at : goal.returns-then-differ_at
returns-then-differ_at c =
    slot_apart _ _ _ _ _ _ c.requires.0 c.slot_low-low.ensures.result c.slot_high-high.ensures.result _
    c.differ_at.ensures.result c.if-differ_at.true

pub loop-s-preserved : goal.loop-s-preserved
loop-s-preserved c =
    slot_passed _ _ _ _ _ _ c.requires.0 c.slot_low-low.ensures.result c.slot_high-high.ensures.result _
    c.differ_at.ensures.result c.if-differ_at.false
    (omega (arith, c.loop-s-test.true, c.slot_count-s-end.ensures.result)) c.loop-s.invariant

pub returns-else-first_live-second_live : goal.returns-else-first_live-second_live
returns-else-first_live-second_live c =
    all_passed _ _ _ _ _ _ _ _ _ c.requires.1 c.requires.2 _ c.if-first_live-second_live.false
    (omega (arith, c.loop-s-test.false, c.slot_count-s-end.ensures.result)) c.loop-s.invariant

pub returns-else-differ_at : goal.returns-else-differ_at
returns-else-differ_at c =
    all_passed _ _ _ _ _ _ _ _ _ c.requires.1 c.requires.2 _ c.if-first_live-second_live.false
    (omega (arith, c.slot_count-s-end.ensures.result))
    (slot_passed _ _ _ _ _ _ c.requires.0 c.slot_low-low.ensures.result c.slot_high-high.ensures.result _
    c.differ_at.ensures.result c.if-differ_at.false (omega (arith, c.loop-s-test.true, c.slot_count-s-end.ensures.result)) c.loop-s.invariant)
