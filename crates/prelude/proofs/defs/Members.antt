-- Lists whose ranks never fall, a list without an element, and the sum over a list.
use mathlib.Core.Bool.{cond}
use mathlib.Core.List.{List, [], ◌∷◌}
use Prim.Native.Nat.{ℕ, ◌+◌, ◌≤◌}
use lib.Dec.{eqb}
use Rattle.prelude.specs.Members.{In}

-- the ranks never fall
abbrev pub Rising : (ℕ → ℕ) → List ℕ → Type 0
Rising f [] = Unit
Rising f (x ∷ l) = ((y : ℕ) → In y l → f x ≤ f y) × Rising f l

-- a list without the first x in it
unfoldable pub without : (x : ℕ) → List ℕ → List ℕ
without x [] = []
without x (y ∷ l) = cond (eqb x y) l (y ∷ without x l)

-- the sum of f over a list
unfoldable pub sum_over : (f : ℕ → ℕ) → List ℕ → ℕ
sum_over f [] = 0
sum_over f (x ∷ l) = f x + sum_over f l
