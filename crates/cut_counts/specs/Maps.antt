-- When two maps of slots are equal: at every key both have the same bytes, or neither has a value.
use Rattle.std.specs.Prelude.{◌≡◌, Bool, true, false, not, ◌&&◌, List, [], ◌∷◌, ℕ, eqb}
use Rattle.std.proofs.Math.Option.{Option, some, none}
use Rattle.prelude.specs.Range.{any_of}
use Rattle.layout.specs.Content.{Table}
use Rattle.table.specs.Table.{key_in, map_of}

-- equal maps, of n slots with the table f and of m slots with the table g
abbrev pub EqualMaps : (f : Table) → (n : ℕ) → (g : Table) → (m : ℕ) → Type 0
EqualMaps f n g m = (k : ℕ) → map_of f n k ≡ map_of g m k

-- ---- the same as a test

unfoldable pub same_bytes : List ℕ → List ℕ → Bool
same_bytes [] [] = true
same_bytes [] (y ∷ ys) = false
same_bytes (x ∷ xs) [] = false
same_bytes (x ∷ xs) (y ∷ ys) = eqb x y && same_bytes xs ys

-- the same value, or none in both
unfoldable pub same_value : Option (List ℕ) → Option (List ℕ) → Bool
same_value none none = true
same_value none (some w) = false
same_value (some v) none = false
same_value (some v) (some w) = same_bytes v w

-- the maps differ at key k
unfoldable pub differ_at : (f : Table) → (n : ℕ) → (g : Table) → (m : ℕ) → (k : ℕ) → Bool
differ_at f n g m k = not (same_value (map_of f n k) (map_of g m k))

-- they differ at no key that a slot of either has; any other key has no value in both
unfoldable pub is_same_map : (f : Table) → (n : ℕ) → (g : Table) → (m : ℕ) → Bool
is_same_map f n g m =
    not (any_of (λ s. differ_at f n g m (key_in (f s))) 1 n) && not (any_of (λ s. differ_at f n g m (key_in (g s))) 1 m)

-- the test decides whether the maps are equal
pub record DecidesEqual (f : Table) (n : ℕ) (g : Table) (m : ℕ) : Type 0 where
  pub equal : is_same_map f n g m ≡ true → EqualMaps f n g m
  pub test : EqualMaps f n g m → is_same_map f n g m ≡ true
