-- THE NUMBERS with which a query is refused, whatever it is given. Document 02, A.12: "33 when a slice has not its
-- length, then 9 when the next version is 2^63 or more."
use Rattle.std.specs.Prelude.{List, [], ◌∷◌, ℕ}
use Rattle.prelude.specs.Numbers.{ZeroOrOneOf}
use Rattle.linequery.specs.Query.{whole_query, version_query, first_query, last_query}

-- whether the line is whole, and its version
abbrev pub line_refusals : List ℕ
line_refusals = 33 ∷ []

-- the first and the last word for a given next version
abbrev pub next_refusals : List ℕ
next_refusals = 33 ∷ 9 ∷ []

-- each "returns 0 or the refusal"
pub record QueryNumbers : Type 0 where
  pub whole : (line lent : List ℕ) → ZeroOrOneOf line_refusals (whole_query line lent).returns
  pub version : (line lent : List ℕ) → ZeroOrOneOf line_refusals (version_query line lent).returns
  pub first : (version : ℕ) (line lent : List ℕ) → ZeroOrOneOf next_refusals (first_query version line lent).returns
  pub last : (version : ℕ) (line lent : List ℕ) → ZeroOrOneOf next_refusals (last_query version line lent).returns
