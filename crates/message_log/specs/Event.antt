-- Calls on the log that a power cut may strike, and the plain machine beside it. Document 02, A.10: "The cut rule
-- covers the log too, from an area of zeros, with recovery's list long enough and cuts among recovery's stores
-- included."
use Rattle.std.specs.Prelude.{Bool, false, cond, not, List, [], ◌∷◌, ◌++◌, ℕ, suc, ◌*◌, ◌≤◌, ltb, length}
use Rattle.prelude.specs.Refusal.{refuse_if, or_else, unless_refused}
use Rattle.prelude.specs.Answer.{refuses}
use Rattle.prelude.specs.Range.{any_of}
use Rattle.words.specs.Word.{AreBytes, word}
use Rattle.layout.specs.Line.{version_fault}
use Rattle.stores.specs.Store.{Store, played, standing, on_line}
use Rattle.message_log.specs.Area.{cells_in}
use Rattle.message_log.specs.Message.{in_window}
use Rattle.message_log.specs.LogOutcome.{short_fault}
use Rattle.message_log.specs.Append.{message_fault, append_stores, append_fault}
use Rattle.message_log.specs.Recover.{recovery_stores, log_recover_fault}

-- a call with what it is lent: at and value are the lists for its stores
pub data LogCall : Type 0 where
  an_append : (message at value : List ℕ) → LogCall
  a_read : (number : ℕ) → LogCall
  a_recovery : (at value : List ℕ) → LogCall

-- a cut among the stores of a recovery that is lent these lists: line n holds its first `counts n`
pub record CutRecovery : Type 0 where
  pub at : List ℕ
  pub value : List ℕ
  pub counts : ℕ → ℕ

-- what comes after a cut: recoveries that are cut again, if any, and one whose stores are all played
pub record LogRestart : Type 0 where
  pub again : List CutRecovery
  pub at : List ℕ
  pub value : List ℕ

-- a call with all its stores played; or a call that a cut struck, so that line n holds its first `counts n` stores, and
-- the restart after it
pub data LogEvent : Type 0 where
  call_done : LogCall → LogEvent
  call_cut : LogCall → (counts : ℕ → ℕ) → LogRestart → LogEvent

-- the call of an event
abbrev pub log_call_of : LogEvent → LogCall
log_call_of (call_done call) = call
log_call_of (call_cut call counts restart) = call

-- ---- the log

-- the stores that a call hands out; a refused call and a read have none
unfoldable pub log_stores : (area : List ℕ) → LogCall → List Store
log_stores area (an_append message at value) =
    unless_refused (append_fault area message (length at) (length value)) (append_stores (cells_in area) (word area) message) []
log_stores area (a_read number) = []
log_stores area (a_recovery at value) =
    unless_refused (log_recover_fault area (length at) (length value)) (recovery_stores (cells_in area) (word area)) []

-- the area after a call with all its stores played
unfoldable pub area_done : (area : List ℕ) → LogCall → List ℕ
area_done area call = played (log_stores area call) area

-- and after a call that a cut struck
unfoldable pub area_cut : (area : List ℕ) → LogCall → (counts : ℕ → ℕ) → List ℕ
area_cut area call counts = played (standing counts (log_stores area call)) area

-- after a recovery that a cut struck
abbrev pub area_again : (area : List ℕ) → CutRecovery → List ℕ
area_again area r = area_cut area (a_recovery r.at r.value) r.counts

-- and after all of them
unfoldable pub area_after_all : (area : List ℕ) → List CutRecovery → List ℕ
area_after_all area [] = area
area_after_all area (r ∷ rs) = area_after_all (area_again area r) rs

-- the area after an event
unfoldable pub area_after : (area : List ℕ) → LogEvent → List ℕ
area_after area (call_done call) = area_done area call
area_after area (call_cut call counts restart) =
    area_done (area_after_all (area_cut area call counts) restart.again) (a_recovery restart.at restart.value)

-- ---- the plain machine

-- "Its plain machine is the list of accepted messages that no cut made absent"
abbrev pub Messages : Type 0
Messages = List (List ℕ)

-- the number of a call's refusal by the plain list, 0 for none. What the area decides is the number of stores
unfoldable pub expected_log_refusal : (area : List ℕ) → Messages → LogCall → ℕ
expected_log_refusal area log (an_append message at value) =
    or_else (message_fault (length message))
    (or_else (version_fault (suc (length log)))
    (short_fault (length (append_stores (cells_in area) (word area) message)) (length at) (length value)))
expected_log_refusal area log (a_read number) = refuse_if (not (in_window (cells_in area) (length log) number)) 31 0
expected_log_refusal area log (a_recovery at value) =
    short_fault (length (recovery_stores (cells_in area) (word area))) (length at) (length value)

-- one of the first n lines holds fewer than all its stores
unfoldable pub is_torn : (counts : ℕ → ℕ) → List Store → (n : ℕ) → Bool
is_torn counts ss n = any_of (λ k. ltb (counts k) (length (on_line k ss))) 0 n

-- is a store of the event missing?
unfoldable pub is_missing : (area : List ℕ) → LogEvent → Bool
is_missing area (call_done call) = false
is_missing area (call_cut call counts restart) = is_torn counts (log_stores area call) (7 * cells_in area)

-- the list after a call, by whether it is refused and whether a store is missing
unfoldable pub plain_append : (is_refused missing : Bool) → LogCall → Messages → Messages
plain_append is_refused missing (an_append message at value) log = cond is_refused log (cond missing log (log ++ message ∷ []))
plain_append is_refused missing (a_read number) log = log
plain_append is_refused missing (a_recovery at value) log = log

-- and after an event
abbrev pub messages_after : (area : List ℕ) → Messages → LogEvent → Messages
messages_after area log event =
    plain_append (refuses (expected_log_refusal area log (log_call_of event))) (is_missing area event) (log_call_of event) log

-- ---- what an event may be

-- a message is bytes
pub data FitsCall : LogCall → Type 0 where
  append_fits : {message at value : List ℕ} → AreBytes message → FitsCall (an_append message at value)
  read_fits : {number : ℕ} → FitsCall (a_read number)
  recovery_fits : {at value : List ℕ} → FitsCall (a_recovery at value)

-- "with recovery's list long enough": K entries are, in an area of K cells
pub data FitsEvent (cells : ℕ) : LogEvent → Type 0 where
  done_fits : {call : LogCall} → FitsCall call → FitsEvent cells (call_done call)
  cut_fits : {call : LogCall} {counts : ℕ → ℕ} {restart : LogRestart} → FitsCall call → cells ≤ length restart.at
      → cells ≤ length restart.value → FitsEvent cells (call_cut call counts restart)
