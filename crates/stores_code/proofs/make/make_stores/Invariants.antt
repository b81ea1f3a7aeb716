-- Invariants and measures of `stores_code::make::make_stores`.
use Rattle.stores.proofs.Making.{Making}
use Rattle.stores_code.proofs.make.make_stores.Given as goal

-- `stores_code::make::make_stores` meets its contract. Assumes nothing.
abbrev pub invariant-loop-k : goal.invariant-loop-k
invariant-loop-k l = Making l.at l.value l.initial.image l.image l.from l.count l.k
