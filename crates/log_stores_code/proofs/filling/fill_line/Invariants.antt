-- Invariants and measures of `log_stores_code::filling::fill_line`.
use Prim.Native.Nat.{◌*◌}
use Rattle.message_log.proofs.Fillings.{RunFilling}
use Rattle.message_log.specs.Append.{message_line}
use Rattle.log_stores_code.proofs.filling.fill_line.Given as goal

-- `log_stores_code::filling::fill_line` meets its contract. Assumes nothing.
abbrev pub invariant-loop-j : goal.invariant-loop-j
invariant-loop-j l = RunFilling (8 * l.n) (message_line l.message l.i) l.count l.from l.initial.at l.initial.value l.j l.at l.value
