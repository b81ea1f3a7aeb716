-- Answers of `recovery_scan_code::scanning::scan`.
use Prim.Native.Nat.{◌+◌}
use native.Mathlib.Omega.{arith}
use lib.ListN.{set}
use Rattle.words.specs.Word.{word}
use Rattle.recovery.proofs.Scans.{Scanning, high-set, high_left, scan_start, scan_next, classes_few, scan_end}
use Rattle.recovery_scan_code.proofs.scanning.scan.Goals as goal
use Rattle.recovery_scan_code.proofs.scanning.scan.Goals.{After-joined-all, then-l-eq2, else-l-eq2}

pub loop-s-init : goal.loop-s-init
loop-s-init c =
    scan_start _ _ _ _ _ _ _ _ c.requires

pub joined-all-requires : goal.joined-all-requires
joined-all-requires c =
    omega (arith, classes_few _ _ _ _ _ _ _ _ _ _ c.loop-s.invariant, c.requires.few)

-- slot s is scanned
with_slot : (c : After-joined-all)
    → Scanning c.args.l (word c.args.image.now) c.args.n c.args.b (set c.loop-s.ranks c.loop-s.s c.summary-slot.result.rank)
    (set c.loop-s.lows c.loop-s.s c.summary-slot.result.low) c.if-l-eq2.highs
    (set c.loop-s.places c.loop-s.s c.summary-slot.result.place) c.joined-all.result (c.loop-s.s + 1)
with_slot c =
    scan_next _ _ _ _ _ _ _ _ _ _ _ _ _ c.loop-s.invariant c.loop-s-test.true c.summary-slot.ensures
    (elim c.if-l-eq2.branch [
      | then-l-eq2 w ↦ high-set _ _ _ _ _ _ w.if-l-eq2.true c.loop-s.invariant.highs_size c.loop-s-test.true w.highs-is
      | else-l-eq2 w ↦ high_left _ _ _ _ _ _ c.requires.layout w.if-l-eq2.false c.loop-s.invariant.highs_size c.summary-slot.ensures.no_high w.highs-is
    ])
    c.joined-all.ensures

pub loop-s-preserved : goal.loop-s-preserved
loop-s-preserved c =
    with_slot (goal.at-loop-s-preserved c).After-joined-all

pub returns-after-l-eq2 : goal.returns-after-l-eq2
returns-after-l-eq2 c =
    record { result = scan_end _ _ _ _ _ _ _ _ _ _ (with_slot (goal.at-returns-after-l-eq2 c).After-joined-all) (omega arith) }
