-- append_after: an append to which the last number is lent, and this may be any number. Document 02, A.10.
use Rattle.std.specs.Prelude.{◌≡◌, List, ℕ, suc, ◌%◌, length}
use Rattle.prelude.specs.Refusal.{or_else}
use Rattle.words.specs.Word.{word}
use Rattle.layout.specs.Line.{version_fault}
use Rattle.stores.specs.Store.{Store}
use Rattle.message_log.specs.Area.{cells_in, area_fault}
use Rattle.message_log.specs.Message.{highest}
use Rattle.message_log.specs.LogOutcome.{short_fault, LogResult, handing}
use Rattle.message_log.specs.Append.{message_stores, message_fault, append_stores, append_fault, append_result}

-- "Message s .. stands in cell s mod K": s is one above the lent number
unfoldable pub append_after_stores : (cells : ℕ) → (m : ℕ → ℕ) → (last : ℕ) → (message : List ℕ) → List Store
append_after_stores cells m last message = message_stores m (suc last % cells) (suc last) message

-- "30 is tested first, and in an append 29, then 9 for a number of 2^63 or more, then 13 for a list shorter than the
-- stores"; ats and vals are the lengths of the lists
unfoldable pub append_after_fault : (area : List ℕ) → (last : ℕ) → (message : List ℕ) → (ats vals : ℕ) → ℕ
append_after_fault area last message ats vals =
    or_else (area_fault area)
    (or_else (message_fault (length message))
    (or_else (version_fault (suc last))
    (short_fault (length (append_after_stores (cells_in area) (word area) last message)) ats vals)))

-- "An append answers its number and its count of stores"
unfoldable pub append_after_result : (area : List ℕ) → (last : ℕ) → (message at value : List ℕ) → LogResult
append_after_result area last message at value =
    handing (append_after_fault area last message (length at) (length value)) (suc last) (append_after_stores (cells_in area) (word area) last message) at value

-- append_after, lent the highest complete number of the area, is append: in its stores, its refusal and its result
pub record AfterHighest : Type 0 where
  pub stores : (cells : ℕ) (m : ℕ → ℕ) (message : List ℕ) → append_after_stores cells m (highest cells m) message ≡ append_stores cells m message
  pub fault : (area message : List ℕ) (ats vals : ℕ)
      → append_after_fault area (highest (cells_in area) (word area)) message ats vals ≡ append_fault area message ats vals
  pub result : (area message at value : List ℕ)
      → append_after_result area (highest (cells_in area) (word area)) message at value ≡ append_result area message at value
