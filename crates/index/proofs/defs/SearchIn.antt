-- The search for a key on the list of a chain's slots, as `walk` does it on the links.
use mathlib.Core.Bool.{cond}
use mathlib.Core.List.{List, [], ◌∷◌}
use Prim.Native.Nat.{ℕ, ◌+◌}
use lib.Dec.{eqb}
use Rattle.index.specs.declared.Found.{Found}
use Rattle.index.specs.declared.Found.TheVariants.{At, Missing}

unfoldable pub search_in : (keys : ℕ → ℕ) → (key compared prev : ℕ) → List ℕ → Found
search_in keys key compared prev [] = Missing prev compared
search_in keys key compared prev (x ∷ xs) =
    cond (eqb (keys x) key) (At x prev (compared + 1)) (search_in keys key (compared + 1) x xs)
