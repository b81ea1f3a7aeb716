-- A basket's index writes as the functions have them: the slots taken stand in two arrays, and a write goes by numbers
-- that lie inside the index.
use Rattle.std.specs.Prelude.{◌≡◌, cond, List, [], ◌∷◌, ℕ, zero, suc, ◌+◌, ◌≤◌, ◌<◌, eqb, length, get_or}
use Rattle.index.specs.Allocation.{Taken}
use Rattle.index.specs.Index.{with_ends}
use Rattle.index.specs.declared.State.{State}

-- n slots that are taken and the slots before them, from number i on
unfoldable pub takens_from : (slots prevs : List ℕ) → (i n : ℕ) → List Taken
takens_from slots prevs i zero = []
takens_from slots prevs i (suc n) = record { slot = get_or slots i 0; prev = get_or prevs i 0 } ∷ takens_from slots prevs (suc i) n

-- the first `count` of them lie inside an index with so many links
pub record TakensInside (slots prevs : List ℕ) (count links : ℕ) : Type 0 where
  pub few : count ≤ 8
  pub slot_in : (j : ℕ) → j < count → get_or slots j 0 < links
  pub prev_in : (j : ℕ) → j < count → get_or prevs j 0 < links

-- the state after such a slot left the reuse chain
unfoldable pub left_state : (next : List ℕ) → State → (slot prev : ℕ) → State
left_state next s slot prev = with_ends s (cond (eqb prev 0) (get_or next slot 0) s.first) (cond (eqb s.last slot) prev s.last)

-- the numbers by which a key's links go lie inside an index of n slots
pub record LinksInside (heads next : List ℕ) (n : ℕ) (s : State) (h old slot : ℕ) : Type 0 where
  pub head_in : h < length heads
  pub size : length next ≡ n + 1
  pub last_in : s.last ≤ n
  pub old-in : old ≤ n
  pub slot_in : slot ≤ n
