-- The numbers with which a call is refused, as a list. Document 02, A.1: "Demand 1's numbers now include those these
-- requests give."
use Rattle.std.specs.Prelude.{◌≡◌, ◌⊎◌, List, ℕ}
use Rattle.prelude.specs.Members.{In}
use Rattle.prelude.specs.Answer.{Answer, gives, absent, refused}

-- of a call that answers: a refusal's number is one of these
abbrev pub Numbered : List ℕ → Answer → Type 0
Numbered ks (gives values) = Unit
Numbered ks absent = Unit
Numbered ks (refused number) = In number ks

-- of a call that returns 0 or a refusal's number: the number is 0 or one of these
abbrev pub ZeroOrOneOf : List ℕ → ℕ → Type 0
ZeroOrOneOf ks number = (number ≡ 0) ⊎ In number ks
