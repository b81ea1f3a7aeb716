-- THE LOG RULE WITH append_after: the log rule over the area and the last number, which the program holds and lends to
-- append_after. Document 02, A.10.
use Rattle.std.specs.Prelude.{◌≡◌, List, [], ℕ, ◌*◌, ◌≤◌, length, get_or, replicate}
use Rattle.prelude.specs.Answer.{Answer, gives, absent, refused}
use Rattle.prelude.specs.Members.{All}
use Rattle.prelude.specs.History.{Throughout}
use Rattle.message_log.specs.Append.{append_result}
use Rattle.message_log.specs.AppendAfter.{append_after_result}
use Rattle.message_log.specs.Recover.{log_recover_result}
use Rattle.message_log.specs.Event.{LogCall, an_append, a_read, a_recovery, LogEvent, call_done, call_cut, area_cut, area_after_all, area_after, Messages}
use Rattle.message_log.specs.Event.{messages_after, FitsEvent}
use Rattle.message_log.specs.Rule.{Shows, LogCallCorrect, RestartCorrect, StandingPlays}

-- ---- the last number

-- the number in an answer. A refused call answers none, and the one that was held stays
unfoldable pub number_given : (held : ℕ) → Answer → ℕ
number_given held (gives values) = get_or values 0 0
number_given held absent = held
number_given held (refused number) = held

-- what append_after is lent, held by the program: the number that the last append or recovery that was not refused
-- answered
unfoldable pub last_after_call : (area : List ℕ) → (last : ℕ) → LogCall → ℕ
last_after_call area last (an_append message at value) = number_given last (append_result area message at value).answer
last_after_call area last (a_read number) = last
last_after_call area last (a_recovery at value) = number_given last (log_recover_result area at value).answer

-- a cut takes it, and the recovery after the cut answers it anew
unfoldable pub last_after : (area : List ℕ) → (last : ℕ) → LogEvent → ℕ
last_after area last (call_done call) = last_after_call area last call
last_after area last (call_cut call counts restart) =
    last_after_call (area_after_all (area_cut area call counts) restart.again) 0 (a_recovery restart.at restart.value)

-- between events: the area, and the last number
pub record LogState : Type 0 where
  pub area : List ℕ
  pub last : ℕ

abbrev pub state_after : LogState → LogEvent → LogState
state_after s event = record { area = area_after s.area event; last = last_after s.area s.last event }

-- ---- one call and one event

-- each call answers as the plain machine does, and an append with two lent lists may be made by append_after, which is
-- lent the last number
unfoldable pub LogCallAfterCorrect : (area : List ℕ) → (last : ℕ) → Messages → LogCall → Type 0
LogCallAfterCorrect area last log (an_append message at value) =
    LogCallCorrect area log (an_append message at value)
    × (append_after_result area last message at value ≡ append_result area message at value)
LogCallAfterCorrect area last log (a_read number) = LogCallCorrect area log (a_read number)
LogCallAfterCorrect area last log (a_recovery at value) = LogCallCorrect area log (a_recovery at value)

-- the call is right, and so is the restart after it; the stores of the struck call that stand are played
unfoldable pub EventAfterCorrect : (cells : ℕ) → LogState → Messages → LogEvent → Type 0
EventAfterCorrect cells s log (call_done call) = LogCallAfterCorrect s.area s.last log call
EventAfterCorrect cells s log (call_cut call counts restart) =
    LogCallAfterCorrect s.area s.last log call
    × RestartCorrect cells (area_cut s.area call counts) (messages_after s.area log (call_cut call counts restart)) restart
    × StandingPlays s.area call counts

-- ---- every list of events

-- the list is shown, and the last number counts its messages
pub record ShowsAndCounts (cells : ℕ) (s : LogState) (log : Messages) : Type 0 where
  pub shows : Shows cells s.area log
  pub counted : s.last ≡ length log

-- so it is before each event and after the last, and each event is right
abbrev pub LogHoldsAfter : (cells : ℕ) → LogState → Messages → List LogEvent → Type 0
LogHoldsAfter cells = Throughout state_after (λ s. messages_after s.area) (ShowsAndCounts cells) (EventAfterCorrect cells)

-- "from an area of zeros", of which no number was answered
abbrev pub LogRuleAfter : Type 0
LogRuleAfter =
    (cells : ℕ) → 2 ≤ cells → cells ≤ 1000 → (events : List LogEvent) → All (FitsEvent cells) events
    → LogHoldsAfter cells (record { area = replicate (448 * cells) 0; last = 0 }) [] events
