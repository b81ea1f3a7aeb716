-- The orders in which recovery chains the slots. Document 01, "The index".
use Rattle.std.specs.Prelude.{◌&&◌, cond, List, [], ◌∷◌, ℕ, ◌+◌, eqb}
use Rattle.layout.specs.Content.{Content, broken, empty, put_record, remove_record, Table}
use Rattle.prelude.specs.Filter.{filter}
use Rattle.sorting.specs.Sorted.{sorted}
use Rattle.prelude.specs.Members.{slot_numbers}
use Rattle.table.specs.Table.{key_in, live, spare}

-- "broken slots, then empty slots, .. then the rest by rising version"
unfoldable pub rank_of : Content → ℕ
rank_of (broken top) = 0
rank_of empty = 1
rank_of (put_record version key value) = 2 + version
rank_of (remove_record version key) = 2 + version

-- "should versions tie, by slot number": the sort keeps the order of the slots of one rank
unfoldable pub ordered : Table → List ℕ → List ℕ
ordered f xs = sorted (λ s. rank_of (f s)) xs

-- "Recovery orders each head's chain by rising version", and document 02, A.7: "Recovery settles ties in a head's chain
-- by slot number too": the live slots whose key belongs to head h; `head` gives a key's head
unfoldable pub chain_of : Table → (n : ℕ) → (head : ℕ → ℕ) → (h : ℕ) → List ℕ
chain_of f n head h = ordered f (filter (λ s. live f n s && eqb (head (key_in (f s))) h) (slot_numbers n))

-- "It orders the reuse chain": the spare slots
unfoldable pub reuse_of : Table → (n : ℕ) → List ℕ
reuse_of f n = ordered f (filter (spare f n) (slot_numbers n))

-- the first slot of a chain that holds key k, 0 if none
unfoldable pub first_with : Table → (k : ℕ) → List ℕ → ℕ
first_with f k [] = 0
first_with f k (t ∷ l) = cond (eqb (key_in (f t)) k) t (first_with f k l)
