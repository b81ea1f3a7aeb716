-- What a call of the set leaves.
use Rattle.std.specs.Prelude.{List, [], ℕ}
use Rattle.prelude.specs.Answer.{Answer}
use Rattle.stores.specs.Store.{Store}
use Rattle.index.specs.Index.{Index}

-- its answer, the output, the stores that are to be played, the index, and the slots compared. Only a get has an
-- output. Insert, replace, remove, get and locate report a count; a basket's is 0
pub record CallResult : Type 0 where
  pub answer : Answer
  pub out : List ℕ
  pub stores : List Store
  pub index : Index
  pub compared : ℕ

-- "A refused call changes no lent byte, index number or state"; nor does a remove that answers absent. i is the index
-- at entry
unfoldable pub unchanged : Answer → Index → (compared : ℕ) → CallResult
unchanged answer i compared = record { answer = answer; out = []; stores = []; index = i; compared = compared }

-- what a call leaves that is lent no stores and no state: a get and a locate
pub record ReadOnlyResult : Type 0 where
  pub answer : Answer
  pub out : List ℕ
  pub compared : ℕ
