-- The sharers of a version, where 7 is not due.
use mathlib.Core.Path.{◌≡◌}
use mathlib.Core.Bool.{true}
use Prim.Native.Nat.{ℕ, ◌≤◌}
use Rattle.layout.specs.Content.{Table, highest_whole_in}
use Rattle.prelude.specs.Members.{Slot}
use Rattle.table.specs.Complete.{SizeFields, sharers, basket_size}
use Rattle.table.specs.Table.{is_record, key_in}

-- "Fault 7 is now for sharers of a version whose numbers differ, that are more than their number (0 meaning one), or with a key twice": none of the three
pub record Agreed (f : Table) (num : SizeFields) (n : ℕ) : Type 0 where
  pub numbers : (s t : ℕ) → Slot n s → Slot n t → is_record (f s) ≡ true → is_record (f t) ≡ true → highest_whole_in (f s) ≡ highest_whole_in (f t)
      → num s ≡ num t
  pub few : (s : ℕ) → Slot n s → is_record (f s) ≡ true → sharers f n (highest_whole_in (f s)) ≤ basket_size (num s)
  pub keys : (s t : ℕ) → Slot n s → Slot n t → (s ≡ t → ⊥) → is_record (f s) ≡ true → is_record (f t) ≡ true → highest_whole_in (f s) ≡ highest_whole_in (f t)
      → key_in (f s) ≡ key_in (f t) → ⊥
