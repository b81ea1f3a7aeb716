-- The invariant of `slot_counts_code::void_records::void_removes`.
use Rattle.slot_counts.proofs.VoidRecords.{Removing}
use Rattle.slot_counts_code.proofs.void_records.void_removes.Given as goal

abbrev pub invariant-loop-i : goal.invariant-loop-i
invariant-loop-i l = Removing l.image l.l l.i l.removes
