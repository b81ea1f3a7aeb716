-- The elements of a list, how their ranks follow each other, and the slot numbers from 1 on.
use Rattle.std.specs.Prelude.{◌≡◌, List, [], ◌∷◌, ◌++◌, ◌⊎◌, ℕ, zero, suc, ◌+◌, ◌≤◌, ◌<◌}

-- every element of the list has the property
pub data All {A : Type 0} (P : A → Type 0) : List A → Type 0 where
  none_left : All P []
  one_more : {x : A} {l : List A} → P x → All P l → All P (x ∷ l)

-- x is an element of the list
abbrev pub In : ℕ → List ℕ → Type 0
In x [] = ⊥
In x (y ∷ l) = (x ≡ y) ⊎ In x l

-- the ranks rise
abbrev pub Strict : (ℕ → ℕ) → List ℕ → Type 0
Strict f [] = Unit
Strict f (x ∷ l) = ((y : ℕ) → In y l → f x < f y) × Strict f l

-- no two elements have the same rank
abbrev pub Apart : (ℕ → ℕ) → List ℕ → Type 0
Apart f [] = Unit
Apart f (x ∷ l) = ((y : ℕ) → In y l → f x ≡ f y → ⊥) × Apart f l

-- no element stands twice
abbrev pub Once : List ℕ → Type 0
Once [] = Unit
Once (x ∷ l) = (In x l → ⊥) × Once l

-- 1 to n
unfoldable pub slot_numbers : (n : ℕ) → List ℕ
slot_numbers zero = []
slot_numbers (suc n) = slot_numbers n ++ (suc n ∷ [])

-- s is one of the slots 1 to n
abbrev pub Slot : (n s : ℕ) → Type 0
Slot n s = (1 ≤ s) × (s ≤ n)
