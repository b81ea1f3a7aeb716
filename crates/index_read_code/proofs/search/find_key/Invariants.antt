-- The invariant of `index_read_code::search::find_key`.
use Prim.Native.Nat.{◌-◌}
use Rattle.layout.specs.Record.{key_with}
use Rattle.index.proofs.Walks.{Going}
use Rattle.index_read_code.proofs.search.find_key.Given as goal

-- as many slots may still be compared as turns are left
abbrev pub invariant-loop : goal.invariant-loop
invariant-loop l = Going l.l l.image l.heads l.next l.n (key_with l.low l.high) l.at l.prev l.compared (l.n - l.counter)
