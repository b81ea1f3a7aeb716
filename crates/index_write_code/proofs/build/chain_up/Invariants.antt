-- The invariant of `index_write_code::build::chain_up`.
use Rattle.index.proofs.Pushes.{Going}
use Rattle.index_write_code.proofs.build.chain_up.Given as goal

abbrev pub invariant-loop-i : goal.invariant-loop-i
invariant-loop-i l = Going l.initial.heads l.initial.next l.order l.places l.heads l.next l.state l.i
