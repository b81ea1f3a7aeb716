-- What the log's exported functions return and leave in the lent numbers, by the results that the public calls promise.
-- Document 02, A.10.
use Rattle.std.specs.Prelude.{List, ℕ}
use Rattle.prelude.specs.Answer.{Answer, refusal_in, given_or}
use Rattle.message_log.specs.LogOutcome.{LogResult}

-- ---- append and recover

-- what the call returns, 0 or a refusal's number, and the lent answer and lists after it
pub record HandCall : Type 0 where
  pub returns : ℕ
  pub answer : List ℕ
  pub at : List ℕ
  pub value : List ℕ

-- what a call with this code left
abbrev pub hand_left : (code : ℕ) → (answer at value : List ℕ) → HandCall
hand_left code answer at value = record { returns = code; answer = answer; at = at; value = value }

-- the same, by the result of the call and the lent answer: the number and the count of stores; a refused call changes
-- nothing lent
unfoldable pub hand_call : LogResult → (answer : List ℕ) → HandCall
hand_call r answer = hand_left (refusal_in r.answer) (given_or r.answer answer) r.at r.value

-- ---- read

-- what the call returns, and the lent answer after it
pub record PartCall : Type 0 where
  pub returns : ℕ
  pub answer : List ℕ

-- what a call with this code left
abbrev pub part_left : (code : ℕ) → (answer : List ℕ) → PartCall
part_left code answer = record { returns = code; answer = answer }

-- the same, by where the message stands: the first byte of the part and how many bytes it has
unfoldable pub part_call : Answer → (answer : List ℕ) → PartCall
part_call r answer = part_left (refusal_in r) (given_or r answer)
