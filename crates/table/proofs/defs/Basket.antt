-- A basket on a table: what it may be, what it changes, and how many keys it puts and removes. A single call is the basket of one slot.
use mathlib.Core.Path.{◌≡◌}
use mathlib.Core.Bool.{Bool, true, false, cond, not, ◌&&◌}
use mathlib.Core.Option.{Option}
use mathlib.Core.List.{List, [], ◌∷◌}
use Prim.Native.Nat.{ℕ, ◌+◌, ◌≤◌, ◌<◌}
use lib.Dec.{eqb}
use lib.ListN.{length}
use Rattle.layout.specs.Content.{Table}
use Rattle.prelude.specs.Members.{Once, In, Slot}
use Rattle.table.specs.Complete.{SizeFields, NoneVoid}
use Rattle.table.specs.Table.{live, key_in, value_in, is_held}
use Rattle.table.specs.Takeable.{may_take}
use Rattle.table.proofs.defs.Shared.{Agreed}
use Rattle.table.proofs.defs.Write.{Above, Record}
use Rattle.table.specs.Class.{is_put}

-- a call that writes the records `new` of version w into the slots `taken`, one for each of its keys
pub record Basket (f : Table) (num : SizeFields) (n w : ℕ) (taken : List ℕ) (new : Table) : Type 0 where
  -- 7 is not due
  pub agreed : Agreed f num n
  -- recovery's stores "are played and fenced before any other call"
  pub none_void : NoneVoid f num n
  -- "Its records share one version", above every version on a whole line
  pub above : Above f n w
  -- "A basket names 1 to 8 distinct keys"
  pub some : 0 < length taken
  pub few : length taken ≤ 8
  pub once : Once taken
  pub slot : (t : ℕ) → In t taken → Slot n t
  pub spare : (t : ℕ) → In t taken → live f n t ≡ false
  pub may : (t : ℕ) → In t taken → may_take f n t ≡ true
  pub records : (t : ℕ) → In t taken → Record (new t) w (key_in (new t))
  pub keys : (s t : ℕ) → In s taken → In t taken → key_in (new s) ≡ key_in (new t) → s ≡ t

-- the map m with the changes of the records in these slots
unfoldable pub changes : List ℕ → (new : Table) → (m : ℕ → Option (List ℕ)) → (k : ℕ) → Option (List ℕ)
changes [] new m k = m k
changes (s ∷ l) new m k = cond (eqb k (key_in (new s))) (value_in (new s)) (changes l new m k)

-- the same key by key, in order: each record's change on the map that the ones before it left
unfoldable pub changes_in_turn : List ℕ → (new : Table) → (m : ℕ → Option (List ℕ)) → (k : ℕ) → Option (List ℕ)
changes_in_turn [] new m k = m k
changes_in_turn (s ∷ l) new m k = changes_in_turn l new (λ j. cond (eqb j (key_in (new s))) (value_in (new s)) (m j)) k

-- 1 where the test holds, else 0
abbrev pub one_if : Bool → ℕ
one_if b = cond b 1 0

-- how many of these records are puts, have a key that the map m holds, insert a key that it lacks, and are removes
unfoldable pub puts_in : List ℕ → (new : Table) → ℕ
puts_in [] new = 0
puts_in (s ∷ l) new = one_if (is_put (new s)) + puts_in l new

unfoldable pub held_in : List ℕ → (new : Table) → (m : ℕ → Option (List ℕ)) → ℕ
held_in [] new m = 0
held_in (s ∷ l) new m = one_if (is_held (m (key_in (new s)))) + held_in l new m

unfoldable pub inserts_in : List ℕ → (new : Table) → (m : ℕ → Option (List ℕ)) → ℕ
inserts_in [] new m = 0
inserts_in (s ∷ l) new m = one_if (is_put (new s) && not (is_held (m (key_in (new s))))) + inserts_in l new m

unfoldable pub removes_in : List ℕ → (new : Table) → ℕ
removes_in [] new = 0
removes_in (s ∷ l) new = one_if (not (is_put (new s))) + removes_in l new

-- only held keys are removed
abbrev pub HeldRemoved : List ℕ → (new : Table) → (m : ℕ → Option (List ℕ)) → Type 0
HeldRemoved l new m = (t : ℕ) → In t l → is_put (new t) ≡ false → is_held (m (key_in (new t))) ≡ true
