-- The invariant of `cases::image::show_played`: no more bytes differ than were compared.
use Prim.Native.Nat.{◌≤◌}
use Rattle.cases.proofs.image.show_played.Given as goal

abbrev pub invariant-loop-i : goal.invariant-loop-i
invariant-loop-i l = l.changed ≤ l.i
