-- Invariants of `calls_basket_write_code::records::fill_basket_stores`.
use mathlib.Core.Path.{◌≡◌}
use Prim.Native.Nat.{◌+◌, ◌-◌, ◌*◌, ◌≤◌, ◌<◌}
use native.Mathlib.Omega.{arith}
use lib.ListN.{length}
use Rattle.table.specs.Complete.{size_field_for}
use Rattle.calls.specs.BasketItems.{item_at}
use Rattle.calls.proofs.BasketStores.{value_of, size_within, Storing, storing_starts, storing_on, recordable, storing_ends}
use borrow.Author.Rules.{rules}
use Rattle.calls_basket_write_code.proofs.records.fill_basket_stores.Given as goal

-- `calls_basket_write_code::records::fill_basket_stores` meets its contract. Assumes nothing.
abbrev pub invariant-loop-j : goal.invariant-loop-j
invariant-loop-j l =
    (l.number ≡ size_field_for l.count) × Storing l.l l.image l.version l.count l.items l.values l.slots l.initial.at l.initial.words l.at l.words l.j
