-- What the cut rule's lists are made of: calls of the set, baskets and steps of the order book. Document 02, A.1: "The
-- cut rule now speaks of book steps too"; A.7: "The cut rule covers baskets".
use Rattle.std.specs.Prelude.{◌≡◌, Bool, List, ℕ}
use Rattle.prelude.specs.Answer.{refuses}
use Rattle.interface.specs.Set.{World, Call, call_result, call_result_by, basket_call_result, basket_call_result_by, PlainMap, Update, updates, Typed}
use Rattle.interface.specs.Set.{expected_refusal, CallCorrect, Basket, basket_updates, expected_basket_refusal, BasketCorrect}
use Rattle.interface.specs.Event.{Event, Effects, effects_of, request_of, step_by, is_whole, plain_event, TypedBasket}
use Rattle.book.specs.Steps.{Step, booked, booked_by}
use Rattle.book.specs.Plain.{step_fault, step_updates, StepCorrect, TypedStep, book_effects}

-- an insert, a replace, a remove, a get or a locate; a basket; or a book step. Each is of one of two families: the
-- calls for any index, and those for the owner of an index
pub data Request : Type 0 where
  a_call : (own : Bool) → Call → Request
  a_basket : (own : Bool) → Basket → Request
  a_step : (own : Bool) → Step → Request

-- what it leaves, its stores not yet played
unfoldable pub request_effects : (l : ℕ) → World → Request → Effects
request_effects l w (a_call own call) = effects_of (call_result_by own l w call)
request_effects l w (a_basket own b) = effects_of (basket_call_result_by own l w b)
request_effects l w (a_step own step) = book_effects (booked_by own l w step)

-- the rules' number for it, and what it makes of the plain map
unfoldable pub request_fault : (l : ℕ) → World → PlainMap → Request → ℕ
request_fault l w m (a_call own call) = expected_refusal l w m call
request_fault l w m (a_basket own b) = expected_basket_refusal l w m b
request_fault l w m (a_step own step) = step_fault l w m step

unfoldable pub request_updates : PlainMap → Request → List Update
request_updates m (a_call own call) = updates call
request_updates m (a_basket own b) = basket_updates b.changes
request_updates m (a_step own step) = step_updates m step

-- its answer is right by the plain map m; and a call for the owner of the index answers and leaves what the call of
-- document 01 does
abbrev pub RequestCorrect : (l : ℕ) → World → PlainMap → Request → Type 0
RequestCorrect l w m (a_call own call) = CallCorrect l w m call × (call_result_by own l w call ≡ call_result l w call)
RequestCorrect l w m (a_basket own b) = BasketCorrect l w m b × (basket_call_result_by own l w b ≡ basket_call_result l w b)
RequestCorrect l w m (a_step own step) = StepCorrect l w m step × (booked_by own l w step ≡ booked l w step)

-- its fields are numbers of their size
abbrev pub TypedRequest : (l : ℕ) → Request → Type 0
TypedRequest l (a_call own call) = Typed l call
TypedRequest l (a_basket own b) = TypedBasket l b
TypedRequest l (a_step own step) = TypedStep l step

-- ---- the plain map

-- all that the plain map is told of a request. Document 01: it is "fed only which call it is, its key, a put's value,
-- whether these rules refuse it" and, of a struck one, whether "all its stores stand". Of the request only
-- `request_updates` is used: the keys, and the value that each gets
pub record Told : Type 0 where
  pub request : Request
  pub is-refused : Bool
  pub all-stand : Bool

-- what it makes of that: it knows nothing else of the world
abbrev pub plain_machine : Told → PlainMap → PlainMap
plain_machine t m = plain_event t.all-stand (request_updates m t.request) t.is-refused m

-- what it is told of an event
abbrev pub told_of : (l : ℕ) → World → PlainMap → Event Request → Told
told_of l w m event =
    record {
      request = request_of event;
      is-refused = refuses (request_fault l w m (request_of event));
      all-stand = is_whole (request_effects l) w event;
    }

-- ---- the set and the plain map after an event

abbrev pub world_after_request : (l : ℕ) → World → Event Request → World
world_after_request l w event = step_by l (request_effects l) w event

abbrev pub map_after_request : (l : ℕ) → World → PlainMap → Event Request → PlainMap
map_after_request l w m event = plain_machine (told_of l w m event) m
