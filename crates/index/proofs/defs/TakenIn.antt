-- The taking of slots on the list of a chain's slots, as `takeWalk` does it on the links.
use mathlib.Core.Bool.{Bool, cond}
use mathlib.Core.List.{List, [], ◌∷◌}
use Prim.Native.Nat.{ℕ, zero, suc}
use lib.Dec.{ltb}
use lib.ListN.{length}
use Rattle.prelude.specs.Filter.{filter}
use Rattle.index.specs.Allocation.{Taken, Allocation, taken, too_few}

-- the first `wanted` slots of a list that may be taken, each with the slot before it that stays; `prev` stands before the list
unfoldable pub takes_in : (may : ℕ → Bool) → (prev wanted : ℕ) → List ℕ → List Taken
takes_in may prev zero xs = []
takes_in may prev (suc wanted) [] = []
takes_in may prev (suc wanted) (x ∷ xs) =
    cond (may x) (record { slot = x; prev = prev } ∷ takes_in may prev wanted xs) (takes_in may x (suc wanted) xs)

-- they, or too few: a list of a chain's slots has no bad link
unfoldable pub taken_in : (may : ℕ → Bool) → (prev wanted : ℕ) → List ℕ → Allocation
taken_in may prev wanted xs = cond (ltb (length (filter may xs)) wanted) too_few (taken (takes_in may prev wanted xs))

-- the slots of the list that are left
unfoldable pub left_in : (may : ℕ → Bool) → (wanted : ℕ) → List ℕ → List ℕ
left_in may zero xs = xs
left_in may (suc wanted) [] = []
left_in may (suc wanted) (x ∷ xs) = cond (may x) (left_in may wanted xs) (x ∷ left_in may (suc wanted) xs)
