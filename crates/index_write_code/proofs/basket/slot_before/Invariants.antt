-- The invariant of `index_write_code::basket::slot_before`.
use Prim.Native.Nat.{◌-◌}
use Rattle.index.proofs.BasketWrites.{Seeking}
use Rattle.index_write_code.proofs.basket.slot_before.Given as goal

abbrev pub invariant-loop : goal.invariant-loop
invariant-loop l = Seeking l.next l.n l.target l.first l.prev l.at (l.n - l.counter)
