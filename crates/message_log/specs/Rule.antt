-- THE LOG RULE: the cut rule for the log, as one statement over every list of appends, reads, recoveries and cuts.
-- Document 02, A.10.
use Rattle.std.specs.Prelude.{◌≡◌, true, false, cond, List, [], ◌∷◌, ◌++◌, ℕ, zero, suc, ◌-◌, ◌*◌, ◌≤◌, length, get_or, take, drop, replicate}
use Rattle.prelude.specs.Refusal.{unless_refused}
use Rattle.prelude.specs.Answer.{Answer, gives, absent, refused, refusal_in}
use Rattle.prelude.specs.Members.{All}
use Rattle.prelude.specs.History.{Throughout}
use Rattle.words.specs.Word.{word}
use Rattle.stores.specs.Store.{Store, zipped, standing}
use Rattle.stores.specs.Play.{play_end, word_numbers, values, play_list_result}
use Rattle.message_log.specs.Area.{cells_in}
use Rattle.message_log.specs.Message.{highest, in_window, shown}
use Rattle.message_log.specs.LogOutcome.{LogResult, log_end, LogListResult}
use Rattle.message_log.specs.Append.{append_result, append_list_result}
use Rattle.message_log.specs.Recover.{log_recover_result, log_recover_list_result}
use Rattle.message_log.specs.Read.{read_part, read_end, read_result, part_result}
use Rattle.message_log.specs.Event.{LogCall, an_append, a_read, a_recovery, LogRestart, LogEvent, call_done, call_cut, log_stores, area_done, area_cut}
use Rattle.message_log.specs.Event.{area_again, area_after_all, area_after, Messages, expected_log_refusal, messages_after, FitsEvent}

-- the messages shown of numbers 1 to n, by rising number
unfoldable pub shown_up_to : (cells : ℕ) → (area : List ℕ) → (n : ℕ) → Messages
shown_up_to cells area zero = []
shown_up_to cells area (suc n) = shown_up_to cells area n ++ cond (shown cells (word area) (suc n)) (read_part area (suc n) ∷ []) []

-- all that readers are shown
unfoldable pub shown_messages : (cells : ℕ) → (area : List ℕ) → Messages
shown_messages cells area = shown_up_to cells area (highest cells (word area))

-- the last n of a list, "or all if fewer"
unfoldable pub last_messages : (n : ℕ) → Messages → Messages
last_messages n log = drop (length log - n) log

-- "A read answers the message as the part of the lent area that holds it", told by numbers, as C's read is answered:
-- where the part starts and how many bytes it has. Just so many stand there, and they are the message's
pub record PartHolds (area message : List ℕ) (answer : Answer) : Type 0 where
  pub start : ℕ
  pub told : answer ≡ gives (start ∷ length message ∷ [])
  pub held : take (length message) (drop start area) ≡ message

pub record Shows (cells : ℕ) (area : List ℕ) (log : Messages) : Type 0 where
  -- "its last K − 1, or all if fewer, are those shown, byte for byte"
  pub size : cells_in area ≡ cells
  pub messages : shown_messages cells area ≡ last_messages (cells - 1) log
  -- and by numbers: these are counted from 1, so message s of the list is the one at s − 1
  pub top : highest cells (word area) ≡ length log
  pub numbers : (s : ℕ) → shown cells (word area) s ≡ in_window cells (length log) s
  pub bytes : (s : ℕ) → in_window cells (length log) s ≡ true → read_part area s ≡ get_or log (s - 1) []
  -- and as C's read answers
  pub parts : (s : ℕ) → in_window cells (length log) s ≡ true → PartHolds area (get_or log (s - 1) []) (part_result area s)
  -- "31 when a number read is not shown"; "A refused read's part is empty."
  pub hidden : (s : ℕ) → in_window cells (length log) s ≡ false → (read_result area s ≡ read_end [] 31) × (part_result area s ≡ refused 31)
  -- "After each cut and after the last call recovery refuses nothing" (document 01), "with recovery's list long
  -- enough": K entries are, of two lists and of one
  pub recovers : (at value : List ℕ) → cells ≤ length at → cells ≤ length value → refusal_in (log_recover_result area at value).answer ≡ 0
  pub recovers_list : (list : List Store) → cells ≤ length list → refusal_in (log_recover_list_result area list).answer ≡ 0

-- ---- one call

-- the count in an answer, 0 for a refusal
unfoldable pub count_given : Answer → ℕ
count_given (gives values) = get_or values 1 0
count_given absent = 0
count_given (refused number) = 0

-- a call that hands out stores: it is refused with this number, or else answers this number and the count of its
-- stores; these stand at the front of the two lists, and play takes them
pub record HandsOut (area : List ℕ) (call : LogCall) (fault number : ℕ) (r : LogResult) : Type 0 where
  pub answer : r.answer ≡ unless_refused fault (gives (number ∷ length (log_stores area call) ∷ [])) (refused fault)
  pub stores : zipped (take (count_given r.answer) r.at) (take (count_given r.answer) r.value) ≡ log_stores area call
  pub plays : play_list_result area (take (count_given r.answer) r.at) (take (count_given r.answer) r.value) ≡ play_end 0 (area_done area call)

-- what a call with one lent list of records left, as two lists of numbers
unfoldable pub as_numbers : LogListResult → LogResult
as_numbers r = log_end r.answer (word_numbers r.list) (values r.list)

-- "The stores are lent as a list of records, each a word number and a value" (A.7): lent the records that have these
-- word numbers and values, a call answers and leaves what it does with the two lists
abbrev pub ListAgrees : (at value : List ℕ) → (List Store → LogListResult) → LogResult → Type 0
ListAgrees at value call r = (list : List Store) → word_numbers list ≡ at → values list ≡ value → as_numbers (call list) ≡ r

-- each call answers as the plain machine does: an append gives the next number and a recovery how many messages there
-- are, both with two lent lists and with one; a read gives the message's bytes, or an empty part; and each is refused
-- exactly where the rules refuse it
unfoldable pub LogCallCorrect : (area : List ℕ) → Messages → LogCall → Type 0
LogCallCorrect area log (an_append message at value) =
    HandsOut area (an_append message at value) (expected_log_refusal area log (an_append message at value)) (suc (length log))
    (append_result area message at value)
    × ListAgrees at value (append_list_result area message) (append_result area message at value)
LogCallCorrect area log (a_read number) =
    read_result area number ≡
    read_end (unless_refused (expected_log_refusal area log (a_read number)) (get_or log (number - 1) []) []) (expected_log_refusal area log (a_read number))
LogCallCorrect area log (a_recovery at value) =
    HandsOut area (a_recovery at value) (expected_log_refusal area log (a_recovery at value)) (length log) (log_recover_result area at value)
    × ListAgrees at value (log_recover_list_result area) (log_recover_result area at value)

-- ---- one event

-- "A cut may strike any call: play makes the counted stores, if there are any" (document 01): of a struck call the play
-- of the list of the stores that stand answers 0 and leaves just the area that recovery gets
abbrev pub StandingPlays : (area : List ℕ) → LogCall → (counts : ℕ → ℕ) → Type 0
StandingPlays area call counts =
    play_list_result area (word_numbers (standing counts (log_stores area call))) (values (standing counts (log_stores area call)))
    ≡ play_end 0 (area_cut area call counts)

-- after a cut the list stays as it is: it is shown before each recovery, whatever stands of the stores of those before;
-- each recovery answers right, and the stores of it that stand are played
abbrev pub RestartCorrect : (cells : ℕ) → (area : List ℕ) → Messages → LogRestart → Type 0
RestartCorrect cells area log restart =
    Throughout area_again (λ a l r. l) (Shows cells)
    (λ a l r. LogCallCorrect a l (a_recovery r.at r.value) × StandingPlays a (a_recovery r.at r.value) r.counts) area log
    restart.again
    × LogCallCorrect (area_after_all area restart.again) log (a_recovery restart.at restart.value)

-- the call is right, and so is the restart after it; the stores of the struck call that stand are played
unfoldable pub EventCorrect : (cells : ℕ) → (area : List ℕ) → Messages → LogEvent → Type 0
EventCorrect cells area log (call_done call) = LogCallCorrect area log call
EventCorrect cells area log (call_cut call counts restart) =
    LogCallCorrect area log call × RestartCorrect cells (area_cut area call counts) (messages_after area log (call_cut call counts restart)) restart
    × StandingPlays area call counts

-- ---- every list of events

-- before each event and after the last the list is shown, and each event is right
abbrev pub LogHolds : (cells : ℕ) → (area : List ℕ) → Messages → List LogEvent → Type 0
LogHolds cells = Throughout area_after messages_after (Shows cells) (EventCorrect cells)

-- "from an area of zeros"
abbrev pub LogRule : Type 0
LogRule =
    (cells : ℕ) → 2 ≤ cells → cells ≤ 1000 → (events : List LogEvent) → All (FitsEvent cells) events
    → LogHolds cells (replicate (448 * cells) 0) [] events
