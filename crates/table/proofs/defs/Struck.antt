-- What a cut leaves of a basket and of recovery's stores, and what recovery asks of a table.
use mathlib.Core.Path.{◌≡◌}
use mathlib.Core.Bool.{true}
use mathlib.Core.List.{List}
use Prim.Native.Nat.{ℕ, ◌≤◌, ◌<◌}
use lib.ListN.{length}
use Rattle.layout.specs.Content.{Content, broken, Table, highest_whole_in}
use Rattle.prelude.specs.Members.{Slot, In}
use Rattle.table.specs.Complete.{SizeFields, size_field_for, is_void, settled}
use Rattle.table.specs.Table.{broken_count, broken_limit, live_count}
use Rattle.table.proofs.defs.Shared.{Agreed}

-- what "any count of first stores on each line" leaves of a slot taken: it is as it was (0 and 0), broken, or holds its new record (8 and 8)
pub data SlotAfter (old new now : Content) (oldNumber newNumber nowNumber : ℕ) : Type 0 where
  kept : now ≡ old → nowNumber ≡ oldNumber → SlotAfter old new now oldNumber newNumber nowNumber
  lost : (top : ℕ) → now ≡ broken top → SlotAfter old new now oldNumber newNumber nowNumber
  done : now ≡ new → nowNumber ≡ newNumber → SlotAfter old new now oldNumber newNumber nowNumber

-- f and num before the call; f' and num' after it or after a cut in it, each slot taken by itself
pub record Struck (f f' : Table) (num num' : SizeFields) (n : ℕ) (taken : List ℕ) (new : Table) : Type 0 where
  pub outside : (t : ℕ) → Slot n t → (In t taken → ⊥) → f' t ≡ f t
  pub numbers : (t : ℕ) → Slot n t → (In t taken → ⊥) → num' t ≡ num t
  pub after : (t : ℕ) → In t taken → SlotAfter (f t) (new t) (f' t) (num t) (size_field_for (length taken)) (num' t)

-- every record of the basket is written, or one of them is not
abbrev pub Finished : (f' : Table) → SizeFields → List ℕ → (new : Table) → Type 0
Finished f' num' taken new = (t : ℕ) → In t taken → (f' t ≡ new t) × (num' t ≡ size_field_for (length taken))

pub data Unfinished (f' : Table) (taken : List ℕ) (new : Table) : Type 0 where
  unfinished : (s : ℕ) → In s taken → (f' s ≡ new s → ⊥) → Unfinished f' taken new

-- what those of recovery's stores that were played left of slot t: it is as it was, or it was void and is broken. The
-- store turns "line A's mark against its close
-- bit"; line B stays whole, and with it the highest version on a whole line
pub data Opened (f f' : Table) (num num' : SizeFields) (n t : ℕ) : Type 0 where
  shut : f' t ≡ f t → num' t ≡ num t → Opened f f' num num' n t
  opened : is_void f num n t ≡ true → f' t ≡ broken (highest_whole_in (f t)) → Opened f f' num num' n t

-- what recovery asks of a table: 7, 25 and 8 are not due
pub record AcceptedTable (f : Table) (num : SizeFields) (n : ℕ) : Type 0 where
  pub agreed : Agreed f num n
  pub few : broken_count (settled f num n) n ≤ broken_limit
  pub idle : live_count (settled f num n) n < n
