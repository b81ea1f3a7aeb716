-- The invariant of `index_write_code::basket::take_all`.
use Rattle.index.proofs.BasketWrites.{Leaving}
use Rattle.index_write_code.proofs.basket.take_all.Given as goal

abbrev pub invariant-loop-j : goal.invariant-loop-j
invariant-loop-j l = Leaving l.slots l.prevs l.count l.initial.next l.initial.rest l.next l.rest l.j
