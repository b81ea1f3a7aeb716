-- The stores of several records in one list. Document 02, A.7: "The stores are lent as a list of records, each a word
-- number and a value, sixteen for each key".
use Rattle.std.specs.Prelude.{List, [], ◌∷◌, ◌++◌, ℕ}
use Rattle.stores.specs.Store.{Store}
use Rattle.stores.specs.Written.{record_stores}

-- a record of a basket, and the slot into which it is to be written
pub record BasketRecord : Type 0 where
  pub slot : ℕ
  pub key : ℕ
  pub kind : ℕ
  pub value : List ℕ

-- the slots of these records
unfoldable pub basket_slots : List BasketRecord → List ℕ
basket_slots [] = []
basket_slots (e ∷ es) = e.slot ∷ basket_slots es

-- "Its records share one version, and bits 16 to 23 of the kind word hold their number": their stores; the close bits
-- are those that stand in the words m
unfoldable pub basket_stores : (l : ℕ) → (m : ℕ → ℕ) → (number version : ℕ) → List BasketRecord → List Store
basket_stores l m number version [] = []
basket_stores l m number version (e ∷ es) =
    record_stores l m e.slot e.key e.kind number e.value version ++ basket_stores l m number version es
