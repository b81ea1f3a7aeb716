-- The slots that a call reports as compared. Document 02, A.4: "get, insert, replace and remove pass it on, absent and
-- later refusals included".
use Rattle.std.specs.Prelude.{List, ℕ, length}
use Rattle.prelude.specs.Refusal.{unless_refused}
use Rattle.layout.specs.Header.{lent_fault}
use Rattle.index.specs.Walk.{search, compared_in}
use Rattle.index.specs.declared.Found.{Found}

-- "A call refused before or by the chain check reports 0": `lent` is its refusal before the chain is followed
unfoldable pub compared_after : (lent : ℕ) → Found → ℕ
compared_after lent found = unless_refused lent (compared_in found) 0

-- remove, get and locate: 1, 2, 3 and 4 come before the chain
unfoldable pub key_compared : (l : ℕ) → (image heads next : List ℕ) → (key : ℕ) → ℕ
key_compared l image heads next key =
    compared_after (lent_fault l image (length heads) (length next)) (search l image heads next key)
