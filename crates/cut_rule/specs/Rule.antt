-- THE CUT RULE, demand 3, as one statement over every list of calls, baskets and book steps of either family, whichever
-- of them power cuts strike.
use Rattle.std.specs.Prelude.{◌≡◌, List, ℕ, length}
use Rattle.prelude.specs.Members.{All}
use Rattle.prelude.specs.History.{Throughout}
use Rattle.interface.specs.Set.{Accepted, Layout, World, PlainMap, Restart, restarted, slots_in, slots_map}
use Rattle.interface.specs.Event.{Event, done, struck, image_cut, request_of, RestartFits, FitsBy}
use Rattle.interface.specs.Plays.{PlaysSingle, PlaysList}
use Rattle.interface.specs.Recovers.{Recovers, RecoversAlways}
use Rattle.cut_rule.specs.Request.{Request, a_call, a_basket, a_step, request_effects, RequestCorrect, TypedRequest, world_after_request, map_after_request}

-- after a cut recovery gives the plain map's next map, and so does each recovery after a cut among its invalidating
-- stores
abbrev pub CrashCorrect : (l : ℕ) → World → PlainMap → Event Request → Type 0
CrashCorrect l w m (done request) = Unit
CrashCorrect l w m (struck request cut) =
    RecoversAlways l (image_cut w (request_effects l w request) cut) (map_after_request l w m (struck request cut))

-- "play makes the counted stores, if there are any": the image that the next request gets, and the one that recovery
-- gets after a cut, are those that play makes of the image before. A basket's stores are played as a list
abbrev pub PlaysBy : (l : ℕ) → World → Request → Event Request → Type 0
PlaysBy l w (a_call own call) event = PlaysSingle l (request_effects l) w event
PlaysBy l w (a_basket own b) event = PlaysList l (request_effects l) w event
PlaysBy l w (a_step own step) event = PlaysSingle l (request_effects l) w event

abbrev pub PlaysCorrect : (l : ℕ) → World → Event Request → Type 0
PlaysCorrect l w event = PlaysBy l w (request_of event) event

-- before each event and after the last: recovery gives the plain map m; each request is refused exactly where the rules
-- refuse it, with their number, and answers as the plain map does otherwise; and play takes its stores
abbrev pub HistoryCorrect : (l : ℕ) → World → PlainMap → List (Event Request) → Type 0
HistoryCorrect l =
    Throughout (world_after_request l) (map_after_request l) (λ w m. Recovers l w.image m)
    (λ w m event. RequestCorrect l w m (request_of event) × PlaysCorrect l w event × CrashCorrect l w m event)

-- "The list starts from an accepted image, one that recovery does not refuse, with the index and state it leaves", and
-- its invalidating stores played, with any cuts among them; the plain map "starts as the accepted image's slots give
-- it"
abbrev pub CutRuleIn : (l : ℕ) → Type 0
CutRuleIn l =
    (image : List ℕ) (start : Restart) → Accepted l image → RestartFits (slots_in image) start
    → (events : List (Event Request)) → All (FitsBy (TypedRequest l) (slots_in image)) events
    → RecoversAlways l image (slots_map l image) × HistoryCorrect l (restarted l image start) (slots_map l image) events

-- for both layouts. Document 02, A.11: "All rules are shown once with the layout as a parameter."
abbrev pub CutRule : Type 0
CutRule = (l : ℕ) → Layout l → CutRuleIn l
