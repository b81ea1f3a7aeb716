-- Answers of `slot_counts_code::void_records::void_removes`.
use native.Mathlib.Omega.{arith}
use Rattle.slot_counts.proofs.VoidRecords.{opened_count, removing_start, opened_inside, removing_more, removing_same, removing_end}
use Rattle.slot_counts_code.proofs.void_records.void_removes.Goals as goal
use Rattle.slot_counts_code.proofs.void_records.void_removes.Goals.{then-slot_kind-eq2, else-slot_kind-eq2}

pub loop-i-init : goal.loop-i-init
loop-i-init c =
    removing_start _ _ _ c.requires

pub bounds-invalidations-i : goal.bounds-invalidations-i
bounds-invalidations-i c =
    omega (arith, opened_count _ _ _ c.requires, c.loop-i-test.true, c.requires.few)

pub slot_kind-requires : goal.slot_kind-requires
slot_kind-requires c =
    record { layout = c.requires.layout; room = opened_inside _ _ _ c.requires _ c.loop-i-test.true }

pub loop-i-preserved : goal.loop-i-preserved
loop-i-preserved c =
    elim c.if-slot_kind-eq2.branch [
      | then-slot_kind-eq2 w ↦
          removing_more _ _ _ c.requires _ c.loop-i-test.true _ _ c.loop-i.invariant c.slot_kind.ensures.result _ w.if-slot_kind-eq2.true w.removes-is
      | else-slot_kind-eq2 w ↦
          removing_same _ _ _ c.requires _ c.loop-i-test.true _ _ c.loop-i.invariant c.slot_kind.ensures.result _ w.if-slot_kind-eq2.false w.removes-is
    ]

pub returns : goal.returns
returns c =
    record { result = (removing_end _ _ _ c.requires _ _ c.loop-i.invariant c.loop-i-test.false) }
