-- The loop of `messages::lent::Log::cut_stores`.
use Rattle.std.proofs.Common.{◌≤◌}
use Rattle.messages.proofs.lent.Log.cut_stores.Given as goal

abbrev pub invariant-loop-i : goal.invariant-loop-i
invariant-loop-i l = l.n ≤ l.i
