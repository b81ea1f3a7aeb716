-- The index as lists of numbers. Document 01, "The index". The numbers may be any: the index need not be the image's
-- own.
use Rattle.std.specs.Prelude.{List, ℕ, zero, suc, ◌%◌, ◌^◌, get_or, set}
use Rattle.index.specs.declared.State.{State}

-- "Heads: B numbers of 32 bits .. Next: N + 1 numbers of 32 bits", and the "state beside them", which "holds the reuse
-- chain's first and last slot, the live count and the next version"; it also names the newest slot, one of
-- the highest valid version
pub record Index : Type 0 where
  pub heads : List ℕ
  pub next : List ℕ
  pub state : State

-- heads and next alone, as they are lent to a call that is given no state
pub record Lists : Type 0 where
  pub heads : List ℕ
  pub next : List ℕ

-- the lent slices and the state as an index
abbrev pub index_of : (heads next : List ℕ) → State → Index
index_of heads next s = record { heads = heads; next = next; state = s }

-- a state of zeros
unfoldable pub no_state : State
no_state = record { first = 0; last = 0; live = 0; version = 0; newest = 0 }

-- the state with these ends of the reuse chain
abbrev pub with_ends : State → (first last : ℕ) → State
with_ends s first last = record { first = first; last = last; live = s.live; version = s.version; newest = s.newest }

-- the index with this live count, next version and newest slot
abbrev pub with_counts : Index → (live version newest : ℕ) → Index
with_counts i live version newest =
    index_of i.heads i.next
    (record { first = i.state.first; last = i.state.last; live = live; version = version; newest = newest })

-- "key k belongs to head k mod B", by the key's low word. Document 02, A.11: "Its head is word 1 mod B"
abbrev pub head_of : (key b : ℕ) → ℕ
head_of key b = key % 2 ^ 64 % b

-- a chain: the one reuse chain, or the chain of a head
pub data Chain : Type 0 where
  reuse : Chain
  head : ℕ → Chain

-- the first slot of a chain
unfoldable pub start : Index → Chain → ℕ
start i reuse = i.state.first
start i (head h) = get_or i.heads h 0

-- what follows slot x in a chain; what follows 0 is the chain's first slot
unfoldable pub ahead : Index → Chain → ℕ → ℕ
ahead i c zero = start i c
ahead i c (suc x) = get_or i.next (suc x) 0

-- ---- one number written

-- the next of slot s becomes v
unfoldable pub set_next : Index → (s v : ℕ) → Index
set_next i s v = index_of i.heads (set i.next s v) i.state

-- the first slot of a chain becomes v
unfoldable pub set_start : Index → Chain → ℕ → Index
set_start i reuse v = index_of i.heads i.next (with_ends i.state v i.state.last)
set_start i (head h) v = index_of (set i.heads h v) i.next i.state

-- the last slot of the reuse chain becomes v
unfoldable pub set_last : Index → ℕ → Index
set_last i v = index_of i.heads i.next (with_ends i.state i.state.first v)

-- the link to what follows prev becomes v; prev 0 is the chain's start
unfoldable pub link : Index → Chain → (prev v : ℕ) → Index
link i c zero v = set_start i c v
link i c (suc prev) v = set_next i (suc prev) v
