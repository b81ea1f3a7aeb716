-- CONSERVATION. Document 02, A.1: "Over any history of book steps since an empty set, total ordered equals total filled
-- plus total withdrawn plus what is open, the first three summed from the accepted steps that no cut made absent."
use Rattle.std.specs.Prelude.{◌≡◌, Bool, true, false, cond, ◌&&◌, List, [], ◌∷◌, ℕ, ◌+◌, length}
use Rattle.std.proofs.Math.Option.{Option, some, none}
use Rattle.prelude.specs.Members.{All}
use Rattle.prelude.specs.History.{Throughout}
use Rattle.interface.specs.Set.{Accepted, World, PlainMap, Keys, Restart, restarted, slots_in, slots_map}
use Rattle.interface.specs.Recovers.{Recovers}
use Rattle.interface.specs.Event.{Event, request_of, is_whole, RestartFits, FitsBy}
use Rattle.book.specs.Orders.{order_of, is_order, open_of}
use Rattle.book.specs.declared.Order.{Order}
use Rattle.book.specs.Steps.{Step, new, acknowledge, fill, withdraw, BookAnswer, taken, already, declined, booked}
use Rattle.book.specs.Plain.{StepCorrect, TypedStep, step_effects, world_after_step, map_after_step}

-- a quantity of the order in a key's value, 0 where the key is not held
unfoldable pub of_held : (Order → ℕ) → Option (List ℕ) → ℕ
of_held f none = 0
of_held f (some value) = f (order_of value)

-- what is open of it
abbrev pub open_held : Option (List ℕ) → ℕ
open_held held = of_held open_of held

-- what a step adds to each total, by the plain map before it
unfoldable pub ordered_in : PlainMap → Step → ℕ
ordered_in m (new key quantity) = quantity
ordered_in m (acknowledge key) = 0
ordered_in m (fill key quantity) = 0
ordered_in m (withdraw key) = 0

unfoldable pub filled_in : PlainMap → Step → ℕ
filled_in m (new key quantity) = 0
filled_in m (acknowledge key) = 0
filled_in m (fill key quantity) = quantity
filled_in m (withdraw key) = 0

-- a withdraw takes all that is open
unfoldable pub withdrawn_in : PlainMap → Step → ℕ
withdrawn_in m (new key quantity) = 0
withdrawn_in m (acknowledge key) = 0
withdrawn_in m (fill key quantity) = 0
withdrawn_in m (withdraw key) = open_held (m key)

-- did a step with this answer do what was asked, a second acknowledge included?
unfoldable pub is_accepted : BookAnswer → Bool
is_accepted (taken values) = true
is_accepted (already values) = true
is_accepted (declined number) = false

-- is the step of an event counted? An accepted step is, by what it answered, "that no cut made absent"
unfoldable pub is_counted : (l : ℕ) → World → Event Step → Bool
is_counted l w event = is_whole (step_effects l) w event && is_accepted (booked l w (request_of event)).answer

-- the sum over a list of events of what each counted step adds
unfoldable pub total_of : (adds : PlainMap → Step → ℕ) → (l : ℕ) → World → PlainMap → List (Event Step) → ℕ
total_of adds l w m [] = 0
total_of adds l w m (event ∷ events) =
    cond (is_counted l w event) (adds m (request_of event)) 0 + total_of adds l (world_after_step l w event) (map_after_step l w m event) events

-- the set after the events
unfoldable pub world_at_end : (l : ℕ) → World → List (Event Step) → World
world_at_end l w [] = w
world_at_end l w (event ∷ events) = world_at_end l (world_after_step l w event) events

-- the plain map after the events
unfoldable pub map_at_end : (l : ℕ) → World → PlainMap → List (Event Step) → PlainMap
map_at_end l w m [] = m
map_at_end l w m (event ∷ events) = map_at_end l (world_after_step l w event) (map_after_step l w m event) events

-- "what is open", summed over a list of keys
unfoldable pub open_total : PlainMap → (keys : List ℕ) → ℕ
open_total m [] = 0
open_total m (key ∷ keys) = open_held (m key) + open_total m keys

-- every value is a book record
abbrev pub AllOrders : PlainMap → Type 0
AllOrders m = (key : ℕ) (value : List ℕ) → m key ≡ some value → is_order value ≡ true

-- before each event and after the last recovery gives the plain map m; each step is refused exactly where the rules
-- refuse it, and otherwise answers as the plain map does
abbrev pub StepsCorrect : (l : ℕ) → World → PlainMap → List (Event Step) → Type 0
StepsCorrect l =
    Throughout (world_after_step l) (map_after_step l) (λ w m. Recovers l w.image m) (λ w m event. StepCorrect l w m (request_of event))

-- from a world with the plain map m: every step answers right, and the totals, summed from the steps that answered so,
-- balance with what is open in every list of the keys that are held at the end
pub record Conserves (l : ℕ) (w : World) (m : PlainMap) (events : List (Event Step)) : Type 0 where
  pub steps : StepsCorrect l w m events
  -- the map is that of the set: what recovery and get then give, with a list of the held keys
  pub recovers : Recovers l (world_at_end l w events).image (map_at_end l w m events)
  pub orders : AllOrders (map_at_end l w m events)
  pub balance : (keys : List ℕ) → Keys (map_at_end l w m events) keys
      → total_of ordered_in l w m events ≡ total_of filled_in l w m events + total_of withdrawn_in l w m events + open_total (map_at_end l w m events) keys

-- "since an empty set": an accepted image whose map is empty, with the index and state that recovery leaves and its
-- invalidating stores played, with any cuts among them
abbrev pub Conservation : (l : ℕ) → Type 0
Conservation l =
    (image : List ℕ) (start : Restart) → Accepted l image → RestartFits (slots_in image) start
    → ((key : ℕ) → slots_map l image key ≡ none) → (events : List (Event Step)) → All (FitsBy (TypedStep l) (slots_in image)) events
    → Conserves l (restarted l image start) (slots_map l image) events
