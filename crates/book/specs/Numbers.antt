-- The numbers with which a book step is refused, whatever image, index and state it is given: 10, 13, 20, 21 and 23
-- never show.
use Rattle.std.specs.Prelude.{List, [], ◌∷◌, ℕ}
use Rattle.prelude.specs.Members.{In}
use Rattle.book.specs.Steps.{BookAnswer, taken, already, declined}

-- a step: those of the set's checks before it, 17, 18, 19, and those of the call that it comes to
abbrev pub step_refusals : List ℕ
step_refusals = 1 ∷ 2 ∷ 3 ∷ 4 ∷ 11 ∷ 17 ∷ 18 ∷ 19 ∷ 28 ∷ 9 ∷ []

-- a refusal's number is one of these
abbrev pub StepNumbered : BookAnswer → Type 0
StepNumbered (taken values) = Unit
StepNumbered (already values) = Unit
StepNumbered (declined number) = In number step_refusals
