-- What recovery reads of a table with no record.
use mathlib.Core.Path.{◌≡◌}
use mathlib.Core.Bool.{false}
use mathlib.Core.List.{[]}
use Prim.Native.Nat.{ℕ}
use Rattle.prelude.specs.Members.{slot_numbers}
use Rattle.layout.specs.Content.{Table}
use Rattle.table.specs.Table.{live_count, next_version, all_live}
use Rattle.table.specs.Order.{chain_of, reuse_of}

-- what recovery reads of a table with no record: all slots spare in the order of their numbers, and no refusal 8
pub record Fresh (f : Table) (n : ℕ) : Type 0 where
  pub live-count : live_count f n ≡ 0
  pub next-version : next_version f n ≡ 1
  pub all_spare : reuse_of f n ≡ slot_numbers n
  pub no_chain : (head : ℕ → ℕ) (h : ℕ) → chain_of f n head h ≡ []
  pub some_room : all_live f n ≡ false
