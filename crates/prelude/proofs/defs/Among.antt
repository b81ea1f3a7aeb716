-- Tests for numbers in a list.
use mathlib.Core.Bool.{Bool, true, false, cond, ◌&&◌}
use mathlib.Core.List.{List, [], ◌∷◌}
use Prim.Native.Nat.{ℕ}
use lib.Dec.{eqb}

-- is k one of these numbers?
abbrev pub is_one : ℕ → List ℕ → Bool
is_one k [] = false
is_one k (x ∷ xs) = cond (eqb k x) true (is_one k xs)

-- the numbers of a list as a set
unfoldable pub member : List ℕ → ℕ → Bool
member xs k = is_one k xs

-- are these all among those?
abbrev pub are_among : List ℕ → List ℕ → Bool
are_among [] ys = true
are_among (x ∷ xs) ys = is_one x ys && are_among xs ys
