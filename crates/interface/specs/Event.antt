-- Calls that a power cut may strike. Document 01, "The plain map and the cut rule": "A cut may strike any call: play
-- makes the counted stores, if there are any, and recovery comes next, whatever its index held."
use Rattle.std.specs.Prelude.{Bool, true, cond, List, ℕ}
use Rattle.prelude.specs.Members.{All}
use Rattle.stores.specs.Store.{Store, played, standing, all_stand}
use Rattle.index.specs.Index.{Index}
use Rattle.plainmap.specs.World.{World, Call, call_result, Restart, restarted}
use Rattle.calls.specs.Result.{CallResult}
use Rattle.plainmap.specs.Plain.{PlainMap, Update, updates, plain_step}
use Rattle.prelude.specs.Answer.{refuses}
use Rattle.plainmap.specs.Claims.{Typed, expected_refusal}
use Rattle.plainmap.specs.Baskets.{Basket, basket_call_result, basket_updates, expected_basket_refusal, TypedChange}
pub use Rattle.plainmap.specs.Accepted.{RoundFits, RestartFits}

-- a cut: of each line n the first `counts n` stores stand; and the restart after it
pub record Cut : Type 0 where
  pub counts : ℕ → ℕ
  pub restart : Restart

-- ---- events of any kind of request

-- a request with all its stores played, or a request that a cut struck
pub data Event (A : Type 0) : Type 0 where
  done : A → Event A
  struck : A → Cut → Event A

-- what a request leaves, its stores not yet played
pub record Effects : Type 0 where
  pub stores : List Store
  pub index : Index

-- the image that a cut leaves
unfoldable pub image_cut : World → Effects → Cut → List ℕ
image_cut w r cut = played (standing cut.counts r.stores) w.image

module _ {A : Type 0} where
  -- the request of an event
  abbrev pub request_of : Event A → A
  request_of (done request) = request
  request_of (struck request cut) = request

  -- the set after an event; `leaves` is what a request leaves
  unfoldable pub step_by : (l : ℕ) → (leaves : World → A → Effects) → World → Event A → World
  step_by l leaves w (done request) =
      record { image = played (leaves w request).stores w.image; index = (leaves w request).index }
  step_by l leaves w (struck request cut) = restarted l (image_cut w (leaves w request) cut) cut.restart

  -- do all stores of an event stand?
  unfoldable pub is_whole : (leaves : World → A → Effects) → World → Event A → Bool
  is_whole leaves w (done request) = true
  is_whole leaves w (struck request cut) = all_stand cut.counts (leaves w request).stores

-- "A struck put or remove that was not refused takes its step, wholly done, if all its stores stand; else it is wholly
-- absent and changes nothing"
unfoldable pub plain_event : (stand : Bool) → List Update → (is_refused : Bool) → PlainMap → PlainMap
plain_event stand us is_refused m = cond stand (plain_step us is_refused m) m

-- an event in an image of n slots: its request's fields are numbers of their size, and each recovery after its
-- cut is lent an index of the right size
pub data FitsBy {A : Type 0} (TypedRequest : A → Type 0) (n : ℕ) : Event A → Type 0 where
  done_fits : {request : A} → TypedRequest request → FitsBy TypedRequest n (done request)
  struck_fits : {request : A} {cut : Cut} → TypedRequest request → RestartFits n cut.restart → FitsBy TypedRequest n (struck request cut)

-- ---- events of the set's calls

abbrev pub effects_of : CallResult → Effects
effects_of r = record { stores = r.stores; index = r.index }

abbrev pub step : (l : ℕ) → World → Event Call → World
step l w event = step_by l (λ v call. effects_of (call_result l v call)) w event

-- the plain map after an event in world w: it is told whether all stores stand, the updates, and whether the rules
-- refuse the call
abbrev pub map_after_event : (l : ℕ) → World → PlainMap → Event Call → PlainMap
map_after_event l w m event =
    plain_event (is_whole (λ v call. effects_of (call_result l v call)) w event) (updates (request_of event))
    (refuses (expected_refusal l w m (request_of event))) m

abbrev pub Fits : (l n : ℕ) → Event Call → Type 0
Fits l n event = FitsBy (Typed l) n event

-- ---- events of baskets

abbrev pub TypedBasket : (l : ℕ) → Basket → Type 0
TypedBasket l b = All (TypedChange l) b.changes

abbrev pub basket_effects : (l : ℕ) → World → Basket → Effects
basket_effects l w b = effects_of (basket_call_result l w b)

abbrev pub basket_step : (l : ℕ) → World → Event Basket → World
basket_step l w event = step_by l (basket_effects l) w event

-- the plain map after an event of a basket: all of its changes or none
abbrev pub map_after_basket : (l : ℕ) → World → PlainMap → Event Basket → PlainMap
map_after_basket l w m event =
    plain_event (is_whole (basket_effects l) w event) (basket_updates (request_of event).changes) (refuses (expected_basket_refusal l w m (request_of event))) m
