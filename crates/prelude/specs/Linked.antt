-- Singly linked lists: what follows each number is given by a function, or by an array in which 0 ends the list.
use Rattle.std.specs.Prelude.{◌≡◌, List, [], ◌∷◌, ℕ, ◌<◌, length, get_or}

-- from a, by f, the numbers xs come, and then v
abbrev pub Run : (f : ℕ → ℕ) → (a : ℕ) → List ℕ → (v : ℕ) → Type 0
Run f a [] v = a ≡ v
Run f a (x ∷ xs) v = (a ≡ x) × Run f (f x) xs v

-- the last of x and xs
abbrev pub end_of : (x : ℕ) → List ℕ → ℕ
end_of x [] = x
end_of x (y ∷ ys) = end_of y ys

-- xs is the list that starts at `from`, by the array `next`
abbrev pub Linked : (next : List ℕ) → (from : ℕ) → List ℕ → Type 0
Linked next from [] = from ≡ 0
Linked next from (x ∷ xs) = (from ≡ x) × (0 < x) × (x < length next) × Linked next (get_or next x 0) xs
