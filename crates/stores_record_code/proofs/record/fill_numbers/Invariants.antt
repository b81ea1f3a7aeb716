-- Invariants and measures of `stores_record_code::record::fill_numbers`.
use Prim.Native.Nat.{◌+◌, ◌*◌}
use Rattle.stores.proofs.Pasted.{Numbering}
use Rattle.stores_record_code.proofs.record.fill_numbers.Given as goal

-- `stores_record_code::record::fill_numbers` meets its contract. Assumes nothing.
abbrev pub invariant-loop-k : goal.invariant-loop-k
invariant-loop-k l = Numbering l.initial.at l.at l.s l.from l.k (16 * l.s + l.k)
