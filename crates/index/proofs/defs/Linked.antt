-- The owners and the chains of an index as they change.
use mathlib.Core.Bool.{Bool, true, false, cond}
use mathlib.Core.List.{List, [], ◌∷◌}
use Prim.Native.Nat.{ℕ, ◌<◌}
use lib.Dec.{eqb}
use lib.ListN.{length}
use Rattle.prelude.specs.Filter.{filter}
use Rattle.index.specs.Index.{Index, Chain, reuse, head}
use Rattle.index.specs.Linked.{Owner, free, of}

-- are the two chains one?
abbrev pub same_chain : Chain → Chain → Bool
same_chain reuse reuse = true
same_chain reuse (head k) = false
same_chain (head h) reuse = false
same_chain (head h) (head k) = eqb h k

-- the owners with slot s given to o
unfoldable pub give : (owner : ℕ → Owner) → (s : ℕ) → Owner → ℕ → Owner
give owner s o x = cond (eqb x s) o (owner x)

-- the chains with xs at c
unfoldable pub with_chain : (chains : Chain → List ℕ) → (c : Chain) → List ℕ → Chain → List ℕ
with_chain chains c xs k = cond (same_chain k c) xs (chains k)

-- the chain can be written: its head is there
abbrev pub Room : Index → Chain → Type 0
Room i reuse = Unit
Room i (head h) = h < length i.heads

-- the owners where each slot of a list stands in its place
unfoldable pub owner_of : (place : ℕ → Chain) → List ℕ → ℕ → Owner
owner_of place [] x = free
owner_of place (s ∷ xs) x = give (owner_of place xs) s (of (place s)) x

-- and the chains: the slots of the list, in its order
unfoldable pub chains_by : (place : ℕ → Chain) → List ℕ → Chain → List ℕ
chains_by place xs c = filter (λ s. same_chain c (place s)) xs
