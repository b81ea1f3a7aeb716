-- The part of a list that passes a test.
use Rattle.std.specs.Prelude.{Bool, true, false, cond, List, [], ◌∷◌, ℕ, eqb}

-- the elements that pass the test, in their order
unfoldable pub filter : (ℕ → Bool) → List ℕ → List ℕ
filter p [] = []
filter p (x ∷ xs) = cond (p x) (x ∷ filter p xs) (filter p xs)

-- does any element pass it?
unfoldable pub any_in : (ℕ → Bool) → List ℕ → Bool
any_in p [] = false
any_in p (x ∷ xs) = cond (p x) true (any_in p xs)

-- is n one of them?
unfoldable pub is_among : (n : ℕ) → List ℕ → Bool
is_among n xs = any_in (λ k. eqb k n) xs
