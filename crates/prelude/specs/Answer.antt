-- What a public call answers, in document 01's terms, and the number of its refusal. "The answer of get is a value's
-- length, absent, or a refusal with its number, and never two of these at once."
use Rattle.std.specs.Prelude.{List, ℕ, Bool, not, eqb}

-- the values that the call gives, absent, or the number of a refusal
pub data Answer : Type 0 where
  gives : (values : List ℕ) → Answer
  absent : Answer
  refused : (number : ℕ) → Answer

-- the number of a refusal, 0 for any other answer
unfoldable pub refusal_in : Answer → ℕ
refusal_in (gives given) = 0
refusal_in absent = 0
refusal_in (refused number) = number

-- the values that the call gives, or those that were lent
unfoldable pub given_or : Answer → (lent : List ℕ) → List ℕ
given_or (gives values) lent = values
given_or absent lent = lent
given_or (refused number) lent = lent

-- a number that is not 0 refuses
unfoldable pub refuses : (number : ℕ) → Bool
refuses number = not (eqb number 0)
