-- THE SLOTS THAT A REQUEST TAKES, over every list of calls, baskets and book steps of either family, whichever of them
-- power cuts strike. Document 02, A.7: "No call, single ones included, takes a slot of the highest valid version, or a
-- remove record while an older valid record of its key remains in the image the call is given, even in a slot that the
-- same call takes; it takes the first others in the reuse chain".
use Rattle.std.specs.Prelude.{◌≡◌, List, ℕ, length}
use Rattle.prelude.specs.Members.{All}
use Rattle.prelude.specs.History.{Throughout}
use Rattle.interface.specs.Set.{Accepted, Layout, World, PlainMap, Restart, restarted, slots_in, slots_map, call_result_by, call_result_by_rule}
use Rattle.interface.specs.Set.{basket_call_result_by}
use Rattle.interface.specs.Set.{basket_call_result_by_rule}
use Rattle.interface.specs.Event.{Event, effects_of, request_of, RestartFits, FitsBy}
use Rattle.book.specs.Steps.{booked_by}
use Rattle.book.specs.Plain.{book_effects, call_for}
use Rattle.cut_rule.specs.Request.{Request, a_call, a_basket, a_step, TypedRequest, world_after_request, map_after_request}

-- answer, stores and index are those of the rule; a step leaves what its call leaves by the rule
abbrev pub RequestByRule : (l : ℕ) → World → PlainMap → Request → Type 0
RequestByRule l w m (a_call own call) = call_result_by own l w call ≡ call_result_by_rule l w call
RequestByRule l w m (a_basket own b) = basket_call_result_by own l w b ≡ basket_call_result_by_rule l w b
RequestByRule l w m (a_step own step) = book_effects (booked_by own l w step) ≡ effects_of (call_result_by_rule l w (call_for l w m step))

-- at each event of a list; the worlds and the plain maps are those of the cut rule
abbrev pub ByRuleThroughout : (l : ℕ) → World → PlainMap → List (Event Request) → Type 0
ByRuleThroughout l =
    Throughout (world_after_request l) (map_after_request l) (λ w m. Unit) (λ w m event. RequestByRule l w m (request_of event))

-- from an accepted image, for both layouts
abbrev pub AllocationRule : Type 0
AllocationRule =
    (l : ℕ) → Layout l → (image : List ℕ) (start : Restart) → Accepted l image
    → RestartFits (slots_in image) start → (events : List (Event Request)) → All (FitsBy (TypedRequest l) (slots_in image)) events
    → ByRuleThroughout l (restarted l image start) (slots_map l image) events
