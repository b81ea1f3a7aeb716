-- Slots that a call may take.
use mathlib.Core.Path.{◌≡◌}
use mathlib.Core.Bool.{true, false}
use Prim.Native.Nat.{ℕ, ◌<◌}
use Rattle.layout.specs.Content.{Table, highest_whole_in}
use Rattle.prelude.specs.Members.{Slot}
use Rattle.table.specs.Table.{live, is_record}
use Rattle.table.specs.Takeable.{highest_valid, may_take}

-- some spare slot is not valid, or is below the highest valid version
pub data RoomToTake (f : Table) (n : ℕ) : Type 0 where
  room_at : (t : ℕ) → Slot n t → live f n t ≡ false → (is_record (f t) ≡ true → highest_whole_in (f t) < highest_valid f n) → RoomToTake f n

-- some spare slot may be taken
pub data Takeable (f : Table) (n : ℕ) : Type 0 where
  takeable : (t : ℕ) → Slot n t → live f n t ≡ false → may_take f n t ≡ true → Takeable f n
