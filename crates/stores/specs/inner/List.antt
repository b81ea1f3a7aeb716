-- "The stores are lent as a list of records, each a word number and a value". Document 02, A.7.
use Rattle.std.specs.Prelude.{List, ◌++◌, ℕ, ◌+◌, ◌*◌, ◌≤◌, ◌<◌, length, get_or, take, drop}
use Rattle.stores.specs.Store.{Store, zipped}

-- "records past them are kept": the first n stores that a list of word numbers and a list of values name, at the front
-- of a lent list
abbrev pub stores_put : (at value : List ℕ) → (n : ℕ) → (lent : List Store) → List Store
stores_put at value n lent = zipped (take n at) (take n value) ++ drop n lent

-- the words of all stores lie inside len bytes
abbrev pub AllInside : (len : ℕ) → List Store → Type 0
AllInside len list = (i : ℕ) → i < length list → 8 * (get_or list i (record { word = 0; value = 0 })).word + 8 ≤ len
