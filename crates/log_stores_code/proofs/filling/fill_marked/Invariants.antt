-- Invariants and measures of `log_stores_code::filling::fill_marked`.
use Prim.Native.Nat.{◌*◌}
use Rattle.stores.specs.Written.{marked}
use Rattle.message_log.proofs.Fillings.{RunFilling}
use Rattle.message_log.specs.Append.{marked_body}
use Rattle.log_stores_code.proofs.filling.fill_marked.Given as goal

-- `log_stores_code::filling::fill_marked` meets its contract. Assumes nothing.
abbrev pub invariant-loop-j : goal.invariant-loop-j
invariant-loop-j l =
    RunFilling (8 * (7 * l.c)) (marked l.stamp l.number (marked_body l.size l.pairs)) 8 0 l.initial.at l.initial.value l.j l.at l.value
