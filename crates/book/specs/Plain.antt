-- The book's steps by the plain map. Document 02, A.1: "The cut rule now speaks of book steps too."
use Rattle.std.specs.Prelude.{◌≡◌, cond, List, [], ◌∷◌, ℕ, ◌^◌, ◌<◌, eqb}
use Rattle.std.proofs.Math.Option.{Option, some, none}
use Rattle.prelude.specs.Answer.{refuses}
use Rattle.prelude.specs.Refusal.{refuse_if, or_else, unless_refused}
use Rattle.interface.specs.Set.{World, Insert, Replace, Call, write, remove, locate, call_result, PlainMap, Update, updates, is_held, holder, next_version}
use Rattle.interface.specs.Set.{table_of, slots_in, expected_refusal}
use Rattle.interface.specs.Event.{Event, Effects, effects_of, request_of, step_by, is_whole, plain_event}
use Rattle.book.specs.Orders.{order_bytes, order_of, is_order, open_of, sent, acknowledged, filled_by}
use Rattle.book.specs.Steps.{Step, new, acknowledge, fill, withdraw, BookAnswer, taken, already, declined, BookResult, quantity_fault, booked}
use Rattle.book.specs.declared.Order.{Order}

abbrev pub step_key : Step → ℕ
step_key (new key quantity) = key
step_key (acknowledge key) = key
step_key (fill key quantity) = key
step_key (withdraw key) = key

-- the order that the plain map holds for a key, where its value is a book record
unfoldable pub order_in : Option (List ℕ) → Option Order
order_in none = none
order_in (some value) = cond (is_order value) (some (order_of value)) none

-- ---- where a step is refused

-- "17 when a new order's key is held, 18 when another step's key is not held or holds no book record, and 19 when a new
-- quantity is zero or a fill is zero or more than is open": by the order that is there
unfoldable pub order_fault : Option Order → Step → ℕ
order_fault none (new key quantity) = refuse_if (eqb quantity 0) 19 0
order_fault none (acknowledge key) = 18
order_fault none (fill key quantity) = 18
order_fault none (withdraw key) = 18
order_fault (some o) (new key quantity) = 17
order_fault (some o) (acknowledge key) = 0
order_fault (some o) (fill key quantity) = quantity_fault quantity (open_of o)
order_fault (some o) (withdraw key) = 0

-- a new order's key may hold what is no book record
unfoldable pub book_fault : PlainMap → Step → ℕ
book_fault m (new key quantity) = refuse_if (is_held (m key)) 17 (order_fault none (new key quantity))
book_fault m (acknowledge key) = order_fault (order_in (m key)) (acknowledge key)
book_fault m (fill key quantity) = order_fault (order_in (m key)) (fill key quantity)
book_fault m (withdraw key) = order_fault (order_in (m key)) (withdraw key)

-- ---- the call of the set that a step comes to

-- by the order that is there: one call, or none for a second acknowledge. Document 02, A.2: "The book's steps use the
-- one they mean"
unfoldable pub call_by : Option Order → Step → Option Call
call_by held (new key quantity) = some (write Insert key (order_bytes (sent quantity)))
call_by none (acknowledge key) = none
call_by none (fill key quantity) = none
call_by none (withdraw key) = none
call_by (some o) (acknowledge key) = cond (eqb o.state 2) none (some (write Replace key (order_bytes (acknowledged o))))
call_by (some o) (fill key quantity) =
    cond (eqb quantity (open_of o)) (some (remove key)) (some (write Replace key (order_bytes (filled_by quantity o))))
call_by (some o) (withdraw key) = some (remove key)

-- by the plain map, of a step that the book's rules do not refuse
unfoldable pub step_call : PlainMap → Step → Option Call
step_call m step = unless_refused (book_fault m step) (call_by (order_in (m (step_key step))) step) none

-- the rules' number for that call
unfoldable pub call_fault : (l : ℕ) → World → PlainMap → Option Call → ℕ
call_fault l w m none = 0
call_fault l w m (some call) = expected_refusal l w m call

-- the rules' number for a step: the book's, and then those of its call
unfoldable pub step_fault : (l : ℕ) → World → PlainMap → Step → ℕ
step_fault l w m step = or_else (book_fault m step) (call_fault l w m (step_call m step))

-- ---- what a step answers and makes of the plain map

-- a step that comes to no call answers the slot that holds the key and its version, `present`
unfoldable pub answer_for : (values present : List ℕ) → Option Call → BookAnswer
answer_for values present none = already present
answer_for values present (some call) = taken values

unfoldable pub step_answer : (l : ℕ) → World → PlainMap → Step → BookAnswer
step_answer l w m step =
    answer_for (w.index.state.first ∷ next_version (table_of l w.image) (slots_in w.image) ∷ [])
    (holder (table_of l w.image) (slots_in w.image) (step_key step)) (step_call m step)

unfoldable pub updates_by : Option Call → List Update
updates_by none = []
updates_by (some call) = updates call

unfoldable pub step_updates : PlainMap → Step → List Update
step_updates m step = updates_by (step_call m step)

-- ---- the set after a step

unfoldable pub refusal_number : BookAnswer → ℕ
refusal_number (taken values) = 0
refusal_number (already values) = 0
refusal_number (declined number) = number

unfoldable pub book_effects : BookResult → Effects
book_effects r = record { stores = r.stores; index = r.index }

-- the call whose stores and index the step's are; a locate, which changes nothing, where the step makes no call
unfoldable pub call_or : (key : ℕ) → Option Call → Call
call_or key none = locate key
call_or key (some call) = call

unfoldable pub call_for : (l : ℕ) → World → PlainMap → Step → Call
call_for l w m step = unless_refused (step_fault l w m step) (call_or (step_key step) (step_call m step)) (locate (step_key step))

-- the step is right: refused exactly where the rules refuse it; otherwise it answers as they have it; it leaves what
-- its call leaves
pub record StepCorrect (l : ℕ) (w : World) (m : PlainMap) (step : Step) : Type 0 where
  pub refusal : refusal_number (booked l w step).answer ≡ step_fault l w m step
  pub answer : step_fault l w m step ≡ 0 → (booked l w step).answer ≡ step_answer l w m step
  pub leaves : book_effects (booked l w step) ≡ effects_of (call_result l w (call_for l w m step))

-- keys and quantities are numbers of their size
pub data TypedStep (l : ℕ) : Step → Type 0 where
  new_typed : {key quantity : ℕ} → key < (2 ^ 64) ^ l → quantity < 2 ^ 64 → TypedStep l (new key quantity)
  acknowledge_typed : {key : ℕ} → key < (2 ^ 64) ^ l → TypedStep l (acknowledge key)
  fill_typed : {key quantity : ℕ} → key < (2 ^ 64) ^ l → quantity < 2 ^ 64 → TypedStep l (fill key quantity)
  withdraw_typed : {key : ℕ} → key < (2 ^ 64) ^ l → TypedStep l (withdraw key)

-- a new order that the book's rules do not refuse, and no other step
abbrev pub NewOrder : PlainMap → Step → Type 0
NewOrder m (new key quantity) = book_fault m (new key quantity) ≡ 0
NewOrder m (acknowledge key) = ⊥
NewOrder m (fill key quantity) = ⊥
NewOrder m (withdraw key) = ⊥

-- ---- events of book steps

-- what a step leaves, its stores not yet played
abbrev pub step_effects : (l : ℕ) → World → Step → Effects
step_effects l w step = book_effects (booked l w step)

-- the set and the plain map after an event of a book step
abbrev pub world_after_step : (l : ℕ) → World → Event Step → World
world_after_step l w event = step_by l (step_effects l) w event

abbrev pub map_after_step : (l : ℕ) → World → PlainMap → Event Step → PlainMap
map_after_step l w m event =
    plain_event (is_whole (step_effects l) w event) (step_updates m (request_of event)) (refuses (step_fault l w m (request_of event))) m
