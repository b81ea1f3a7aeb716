-- Tests, lists and counts over ranges of numbers.
use Rattle.std.specs.Prelude.{Bool, true, false, cond, List, [], ◌∷◌, ℕ, zero, suc, max, eqb, ltb}
use Rattle.prelude.specs.Refusal.{refuse_if, or_else}

-- the test holds at one of the n numbers from k on
unfoldable pub any_of : (ℕ → Bool) → (k n : ℕ) → Bool
any_of p k zero = false
any_of p k (suc n) = cond (p k) true (any_of p (suc k) n)

-- f of each of these numbers, in order
unfoldable pub tabulate : (ℕ → ℕ) → (k n : ℕ) → List ℕ
tabulate f k zero = []
tabulate f k (suc n) = f k ∷ tabulate f (suc k) n

-- the greatest of g 1 to g n, 0 if n is 0
unfoldable pub greatest : (g : ℕ → ℕ) → (n : ℕ) → ℕ
greatest g zero = 0
greatest g (suc n) = max (greatest g n) (g (suc n))

-- the first of 1 to n at which g is greatest, 0 where g is 0 at all of them
unfoldable pub topmost : (g : ℕ → ℕ) → (n : ℕ) → ℕ
topmost g zero = 0
topmost g (suc n) = cond (ltb (greatest g n) (g (suc n))) (suc n) (topmost g n)

-- the lowest of 1 to n at which g is not 0, 0 where g is 0 at all of them
unfoldable pub lowest : (g : ℕ → ℕ) → (n : ℕ) → ℕ
lowest g zero = 0
lowest g (suc n) = or_else (lowest g n) (refuse_if (eqb (g (suc n)) 0) 0 (suc n))

-- g there, 0 where g is 0 at all of them
unfoldable pub at_lowest : (g : ℕ → ℕ) → (n : ℕ) → ℕ
at_lowest g n = refuse_if (eqb (lowest g n) 0) 0 (g (lowest g n))

-- how many of 1 to n pass a test
unfoldable pub count : (p : ℕ → Bool) → (n : ℕ) → ℕ
count p zero = 0
count p (suc n) = cond (p (suc n)) (suc (count p n)) (count p n)
