-- THE SESSION RULE: a trial session answers as the plain map does, whichever of its calls a waiting cut strikes.
-- Document 01, "The trial session" and "The plain map and the cut rule".
use Rattle.std.specs.Prelude.{◌≡◌, List, [], ◌∷◌, ℕ, ◌+◌, ◌*◌, ◌^◌, ◌≤◌, ◌<◌, length, take, Some, None}
use Rattle.std.proofs.Math.Option.{Option, some, none}
use Rattle.prelude.specs.Refusal.{unless_refused}
use Rattle.interface.specs.Set.{formatted, World, Call, call_result, invalidated_world, PlainMap, plain_out, expected_refusal, expected_answer, CallCorrect}
use Rattle.interface.specs.Set.{Reads}
use Rattle.interface.specs.Set.{call_result_by_rule}
use Rattle.interface.specs.Event.{step, map_after_event}
use Rattle.text.specs.Output.{Printed, ok, cut, no}
use Rattle.session.specs.Step.{StepResult, leaves, no_set, size_fault, line_fault}
use Rattle.session.specs.Stream.{step_after}
use Rattle.text.specs.declared.Line.{Line}
use Rattle.text.specs.declared.Line.TheVariants.{New, Write, Remove, Get, Cut, Bad}
use Rattle.session.specs.Waiting.{Waiting}
use Rattle.session.specs.declared.WaitingCut.{WaitingCut}
use Rattle.session.specs.declared.Session.{Session}
use Rattle.session.specs.Lines.{world_of, session_of, call_in, event_in, waits_on, printed_for}
use Rattle.prelude.specs.Members.{All}
use Rattle.prelude.specs.History.{Throughout}
use Rattle.interface.specs.Recovers.{Recovers}

-- the refusal of a line before it is carried out, 0 for none
abbrev pub fault_at : StepResult → Line → ℕ
fault_at r line = line_fault line r.session (length r.image) (length r.heads) (length r.next)

-- ---- what a line prints, by the plain map m before it

-- a call: the rules' refusal, or the plain map's answer with the slot taken and the next version
unfoldable pub plain_prints : World → PlainMap → Call → Printed
plain_prints w m call =
    unless_refused (expected_refusal 1 w m call)
    (printed_for call (expected_answer 1 w m call) (plain_out m call))
    (no (expected_refusal 1 w m call))

-- ---- the plain map beside a session

-- a call's event makes the cut rule's step of the plain map
unfoldable pub map_by_call : World → Waiting → PlainMap → Option Call → PlainMap
map_by_call w waiting m none = m
map_by_call w waiting m (some call) = map_after_event 1 w m (event_in w waiting call)

-- "`n N` formats": the map is empty
unfoldable pub map_by_line : World → Waiting → PlainMap → Line → PlainMap
map_by_line w waiting m (New n) = λ k. none
map_by_line w waiting m (Write key word) = map_by_call w waiting m (call_in m (Write key word))
map_by_line w waiting m (Remove key) = map_by_call w waiting m (call_in m (Remove key))
map_by_line w waiting m (Get key) = map_by_call w waiting m (call_in m (Get key))
map_by_line w waiting m (Cut a b) = m
map_by_line w waiting m Bad = m

-- a refused line "changes nothing"
unfoldable pub map_after : StepResult → PlainMap → Line → PlainMap
map_after r m line = unless_refused (fault_at r line) (map_by_line (world_of r) r.session.waiting m line) m

-- ---- between lines

-- the counts of a waiting cut are at most 8: "`no 14` for a count above 8"
pub data FewWait : Waiting → Type 0 where
  none_waits : FewWait None
  few_wait : {counts : WaitingCut} → counts.a ≤ 8 → counts.b ≤ 8 → FewWait (Some counts)

-- there is a set: it fits into the lent image and index, a waiting cut has fit counts, and recovery, the slots and get
-- give the plain map m
pub record SetBetween (r : StepResult) (m : PlainMap) : Type 0 where
  pub size : size_fault r.session.n (length r.image) (length r.heads) (length r.next) ≡ 0
  pub waits : FewWait r.session.waiting
  pub recovers : Recovers 1 (world_of r).image m
  pub reads : Reads 1 (world_of r) m

-- between lines: before an accepted n there is no set
pub data Between (r : StepResult) (m : PlainMap) : Type 0 where
  no-set : r.session ≡ no_set → Between r m
  a_set : SetBetween r m → Between r m

-- ---- one line

-- the step of a line: what it prints, the session after it, and its set
pub record Leaves (r : StepResult) (line : Line) (p : Printed) (s : Session) (w : World) : Type 0 where
  pub answer : (step_after r line).answer ≡ p
  pub session : (step_after r line).session ≡ s
  pub world : world_of (step_after r line) ≡ w

-- the set of a new n
abbrev pub new_world : StepResult → (n : ℕ) → World
new_world r n = invalidated_world 1 (formatted 1 (128 * (n + 1))) (take 1 r.heads) (take (n + 1) r.next)

-- and the set after a call
abbrev pub world_after_call : StepResult → Call → World
world_after_call r call = step 1 (world_of r) (event_in (world_of r) r.session.waiting call)

-- a refused line changes nothing, n formats and recovers, c waits, and a call is an event of the cut rule, whose answer
-- is right by the plain map m
pub data LineCorrect (r : StepResult) (m : PlainMap) : Line → Type 0 where
  refused_line : {line : Line} → (fault_at r line ≡ 0 → ⊥)
      → step_after r line ≡ leaves (no (fault_at r line)) r.session r.image r.heads r.next → LineCorrect r m line
  new_line : {n : ℕ} → fault_at r (New n) ≡ 0
      → Leaves r (New n) (ok (n ∷ [])) (session_of n (new_world r n) None) (new_world r n) → LineCorrect r m (New n)
  cut_line : {a b : ℕ} → fault_at r (Cut a b) ≡ 0
      → Leaves r (Cut a b) (cut a b) (session_of r.session.n (world_of r) (Some (record { a = a; b = b }))) (world_of r) → LineCorrect r m (Cut a b)
  call_line : {line : Line} {call : Call} → fault_at r line ≡ 0 → call_in m line ≡ some call
      → Leaves r line (plain_prints (world_of r) m call)
      (session_of r.session.n (world_after_call r call) (waits_on r.session.waiting (call_result 1 (world_of r) call).stores))
      (world_after_call r call)
      → CallCorrect 1 (world_of r) m call → call_result 1 (world_of r) call ≡ call_result_by_rule 1 (world_of r) call → LineCorrect r m line

-- ---- every list of lines

-- "16 is a line .. with a number past 64 bits": keys and words are below 2^64; of the other numbers nothing is asked
pub data SizedLine : Line → Type 0 where
  sized_new : {n : ℕ} → SizedLine (New n)
  sized_write : {key word : ℕ} → key < 2 ^ 64 → word < 2 ^ 64 → SizedLine (Write key word)
  sized_remove : {key : ℕ} → key < 2 ^ 64 → SizedLine (Remove key)
  sized_get : {key : ℕ} → key < 2 ^ 64 → SizedLine (Get key)
  sized_cut : {a b : ℕ} → SizedLine (Cut a b)
  sized_bad : SizedLine Bad

-- before each line and after the last the set is the plain map's, and each line answers right
abbrev pub SessionHolds : StepResult → PlainMap → List Line → Type 0
SessionHolds = Throughout step_after map_after Between LineCorrect

-- from the start, with no set and whatever the lent image and index hold, every list of lines answers right; the plain
-- map may be any, as the first accepted n makes it empty
abbrev pub SessionRule : Type 0
SessionRule =
    (p : Printed) (image heads next : List ℕ) (m : PlainMap) (lines : List Line) → All SizedLine lines
    → SessionHolds (leaves p no_set image heads next) m lines
