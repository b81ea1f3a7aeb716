-- The loop of `baskets::handed::Handed::standing`.
use Rattle.std.proofs.Common.{◌≤◌}
use Rattle.baskets.proofs.handed.Handed.standing.Given as goal

abbrev pub invariant-loop-i : goal.invariant-loop-i
invariant-loop-i l = l.n ≤ l.i
