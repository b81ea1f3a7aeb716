-- What the functions on the index ask of their callers, what they leave, and their writes on the parts that the code
-- has: heads, next and a state.
use Rattle.std.specs.Prelude.{cond, List, ℕ, ◌+◌, ◌^◌, ◌≤◌, ◌<◌, eqb, length, get_or, set}
use Rattle.index.specs.Index.{Index, with_ends}
use Rattle.index.specs.Change.{take_first, insert_at, replace_at, remove_at}
use Rattle.index.specs.declared.State.{State}
use Rattle.index.specs.declared.Place.{Place}
use Rattle.index.specs.declared.Place.TheVariants.{Held, NotHeld}

-- the numbers by which a call's writes go lie inside the index, and the next version can be written
pub record WritesInside (heads next : List ℕ) (s : State) (h prev old : ℕ) : Type 0 where
  pub head_in : h < length heads
  pub first_in : s.first < length next
  pub last_in : s.last < length next
  pub prev_in : prev < length next
  pub old-in : old < length next
  pub few : length next ≤ 65536
  pub version_fits : s.version < 2 ^ 63

-- the same for a write of a key that stands at this place in its chain; a new key is counted
abbrev pub PlaceInside : (heads next : List ℕ) → State → (h : ℕ) → Place → Type 0
PlaceInside heads next s h (Held slot prev) = WritesInside heads next s h prev slot
PlaceInside heads next s h (NotHeld prev) = WritesInside heads next s h prev prev × (s.live < 65535)

-- the index after an insert, a replace and a remove that take the first slot of reuse
unfoldable pub insert_new : Index → (h prev : ℕ) → Index
insert_new i h prev = insert_at (take_first i) h prev i.state.first

unfoldable pub replace_held : Index → (h prev old : ℕ) → Index
replace_held i h prev old = replace_at (take_first i) h prev old i.state.first

unfoldable pub remove_held : Index → (h prev old : ℕ) → Index
remove_held i h prev old = remove_at (take_first i) h prev old i.state.first

-- that of an insert or a replace of a key at such a place, and the live count
unfoldable pub write_at : Index → (h : ℕ) → Place → Index
write_at i h (Held slot prev) = replace_held i h prev slot
write_at i h (NotHeld prev) = insert_new i h prev

unfoldable pub live_at : (live : ℕ) → Place → ℕ
live_at live (Held slot prev) = live
live_at live (NotHeld prev) = live + 1

-- ---- what `link`, `take_first` and `append` make of the parts

-- the heads after a link in the chain of head h: where prev is 0 the link is the head
unfoldable pub link_heads : (heads : List ℕ) → (h prev slot : ℕ) → List ℕ
link_heads heads h prev slot = cond (eqb prev 0) (set heads h slot) heads

-- and next: any other link is the next of prev
unfoldable pub link_next : (next : List ℕ) → (prev slot : ℕ) → List ℕ
link_next next prev slot = cond (eqb prev 0) next (set next prev slot)

-- the state after the first reuse slot was taken; heads and next stay
unfoldable pub take_state : (next : List ℕ) → State → State
take_state next s = with_ends s (get_or next s.first 0) (cond (eqb (get_or next s.first 0) 0) 0 s.last)

-- next after a slot was appended to the reuse chain
unfoldable pub append_next : (next : List ℕ) → State → ℕ → List ℕ
append_next next s slot = link_next (set next slot 0) s.last slot

-- and the state; heads stay
unfoldable pub append_state : State → ℕ → State
append_state s slot = with_ends s (cond (eqb s.last 0) slot s.first) slot
