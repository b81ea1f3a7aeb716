-- Recovery's writes to the index: slots pushed to the front of their chains.
use Rattle.std.specs.Prelude.{cond, List, [], ◌∷◌, ℕ, zero, suc, ◌≤◌, ◌<◌, eqb, length, get_or}
use Rattle.index.specs.Index.{Index, index_of, no_state, Chain, reuse, head, set_last}
use Rattle.index.specs.Change.{link_new}

-- slot s at the front of chain c; a first slot of reuse is its last too
unfoldable pub push : Index → (c : Chain) → (s : ℕ) → Index
push i reuse s = set_last (link_new i reuse 0 s i.state.first) (cond (eqb i.state.last 0) s i.state.last)
push i (head h) s = link_new i (head h) 0 s (get_or i.heads h 0)

-- the slots of a list, pushed from its end, each at the front of its chain
unfoldable pub build : (place : ℕ → Chain) → Index → List ℕ → Index
build place i [] = i
build place i (s ∷ order) = push (build place i order) (place s) s

-- ---- as the code has them

-- a chain as a number: 0 is reuse, h + 1 the chain of head h
unfoldable pub chain_from : ℕ → Chain
chain_from zero = reuse
chain_from (suc h) = head h

-- each slot's chain, from a list of such numbers
unfoldable pub place_in : (places : List ℕ) → ℕ → Chain
place_in places s = chain_from (get_or places s 0)

-- the index before the first push
abbrev pub unbuilt : (heads next : List ℕ) → Index
unbuilt heads next = index_of heads next no_state

-- every slot of the order and its place lie inside the index
pub record Ordered (heads next order places : List ℕ) : Type 0 where
  pub slot_in : (k : ℕ) → k < length order → get_or order k 0 < length next
  pub place-in : (k : ℕ) → k < length order → get_or order k 0 < length places
  pub head_in : (k : ℕ) → k < length order → get_or places (get_or order k 0) 0 ≤ length heads
