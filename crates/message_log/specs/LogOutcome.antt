-- What append and recovery answer, and what they leave in the lists that are lent for their stores. Document 02, A.10:
-- "Stores .. are lent and played as for a basket".
use Rattle.std.specs.Prelude.{List, [], ◌∷◌, ◌++◌, ℕ, ltb, length, drop, Result, Ok, Err}
use Rattle.prelude.specs.Refusal.{refuse_if, unless_refused}
use Rattle.prelude.specs.Answer.{Answer, gives, refused}
use Rattle.stores.specs.Store.{Store}
use Rattle.stores.specs.Play.{word_numbers, values}
use Rattle.refusals.specs.declared.Refusal.{Refusal}
use Rattle.refusals.specs.Number.{code_of}
use Rattle.message_log.specs.declared.LogStored.{LogStored}

-- "An append answers its number and its count of stores, recovery the highest complete number, 0 if none, and its
-- count"
unfoldable pub log_answer : Result LogStored Refusal → Answer
log_answer (Ok stored) = gives (stored.number ∷ stored.count ∷ [])
log_answer (Err refusal) = refused (code_of refusal)

-- "13 for a list shorter than the stores": of this many stores, in lists of these lengths
unfoldable pub short_fault : (count ats vals : ℕ) → ℕ
short_fault count ats vals = refuse_if (ltb ats count) 13 (refuse_if (ltb vals count) 13 0)

-- the answer, the word numbers and the values
pub record LogResult : Type 0 where
  pub answer : Answer
  pub at : List ℕ
  pub value : List ℕ

-- what a call with this answer left
abbrev pub log_end : Answer → (at value : List ℕ) → LogResult
log_end answer at value = record { answer = answer; at = at; value = value }

-- a number and the count of the stores, which fill the front of the lists; the entries past them are kept, and a
-- refused call changes nothing
unfoldable pub handing : (fault number : ℕ) → List Store → (at value : List ℕ) → LogResult
handing fault number ss at value =
    unless_refused fault
    (log_end (gives (number ∷ length ss ∷ [])) (word_numbers ss ++ drop (length ss) at) (values ss ++ drop (length ss) value))
    (log_end (refused fault) at value)

-- ---- as a list of records

-- the answer and the records
pub record LogListResult : Type 0 where
  pub answer : Answer
  pub list : List Store

-- what a call with this answer left
abbrev pub log_list_end : Answer → (list : List Store) → LogListResult
log_list_end answer list = record { answer = answer; list = list }

-- the same where "the stores are lent as a list of records, each a word number and a value" (A.7); "records past them
-- are kept"
unfoldable pub handing_list : (fault number : ℕ) → (ss list : List Store) → LogListResult
handing_list fault number ss list =
    unless_refused fault (log_list_end (gives (number ∷ length ss ∷ [])) (ss ++ drop (length ss) list)) (log_list_end (refused fault) list)
