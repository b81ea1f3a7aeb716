-- The keys of slots.
use mathlib.Core.List.{List, [], ◌∷◌}
use Prim.Native.Nat.{ℕ}
use Rattle.prelude.specs.Filter.{filter}
use Rattle.prelude.specs.Members.{slot_numbers}
use Rattle.layout.specs.Content.{Table}
use Rattle.table.specs.Table.{key_in, live}

-- the keys of the slots of a list
unfoldable pub keys_of : Table → List ℕ → List ℕ
keys_of f [] = []
keys_of f (t ∷ ts) = key_in (f t) ∷ keys_of f ts

-- the keys of the live slots among 1 to n
unfoldable pub live_keys : Table → (n : ℕ) → List ℕ
live_keys f n = keys_of f (filter (live f n) (slot_numbers n))
