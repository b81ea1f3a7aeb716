-- Invariants and measures of `stores_record_code::value::fill_value`.
use mathlib.Core.Path.{◌≡◌}
use Rattle.stores.proofs.Placed.{Filling}
use Rattle.stores_record_code.proofs.value.fill_value.Given as goal

-- so many steps were made, and each moved one word
abbrev pub invariant-loop : goal.invariant-loop
invariant-loop l = (l.i ≡ l.counter) × Filling l.l l.value l.initial.words l.words l.from l.i
