-- A call of the log whose stores are made in arrays and go to a lent list of records.
use Rattle.std.specs.Prelude.{◌≡◌, List, [], ◌∷◌, ℕ, ◌≤◌, length, take, Result, Ok, Err}
use Rattle.prelude.specs.Refusal.{unless_refused}
use Rattle.prelude.specs.Answer.{gives, refused}
use Rattle.stores.specs.Store.{Store, zipped}
use Rattle.message_log.specs.LogOutcome.{log_answer, LogListResult, log_list_end}
use Rattle.refusals.specs.declared.Refusal.{Refusal}
use Rattle.message_log.specs.declared.LogStored.{LogStored}

-- how many stores an answer hands out
unfoldable pub stored_count : Result LogStored Refusal → ℕ
stored_count (Ok stored) = stored.count
stored_count (Err refusal) = 0

-- what is handed out, before it stands in a list
unfoldable pub stores_handed : (fault number : ℕ) → List Store → LogListResult
stores_handed fault number ss = unless_refused fault (log_list_end (gives (number ∷ length ss ∷ [])) ss) (log_list_end (refused fault) [])

-- it is made in the first `stored` numbers of two arrays of this size, and a list with this room holds it
pub record StoresMade (size room fault number : ℕ) (ss : List Store) (answer : Result LogStored Refusal) (stored : ℕ) (at value : List ℕ) : Type 0 where
  pub left : log_list_end (log_answer answer) (zipped (take stored at) (take stored value)) ≡ stores_handed fault number ss
  pub in_room : stored ≤ room
  pub in_arrays : stored ≤ size
