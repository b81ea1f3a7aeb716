-- What the exported count of the slots returns and leaves in the lent numbers. Document 02, A.8: "live slots, hidden
-- puts, remove records, void, broken and empty slots", in this order.
use Rattle.std.specs.Prelude.{List, ℕ}
use Rattle.prelude.specs.Answer.{given_or}
use Rattle.interface.specs.Set.{CountResult, Lists}
use Rattle.exports.specs.Call.{returned_with}

-- 0 or a refusal's number and slot, and the lent counts, heads and next after the call
pub record CountCall : Type 0 where
  pub returns : ℕ
  pub counts : List ℕ
  pub lists : Lists

-- what a call with this code left
abbrev pub count_left : (code : ℕ) → (counts heads next : List ℕ) → CountCall
count_left code counts heads next = record { returns = code; counts = counts; lists = record { heads = heads; next = next } }

-- the same, by the result of counting and the lent counts
unfoldable pub count_call : CountResult → (counts : List ℕ) → CountCall
count_call r counts =
    record { returns = returned_with r.answer r.slot; counts = given_or r.answer counts; lists = r.lists }
