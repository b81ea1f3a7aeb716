-- ROOM ON A GROWN SET, over every list of calls, baskets and book steps, whichever of them power cuts strike. Document
-- 02, A.7: "A single insert on a set grown from a formatted image meets 28 only when one slot is left that holds no
-- open key".
use Rattle.std.specs.Prelude.{◌≡◌, List, ℕ}
use Rattle.prelude.specs.Members.{All}
use Rattle.prelude.specs.History.{Throughout}
use Rattle.interface.specs.Set.{Layout, World, PlainMap, Restart, restarted, formatted, slots_of, slots_map, expected_refusal, SomeTakeable, InsertsNew}
use Rattle.interface.specs.Set.{RoomCorrect}
use Rattle.interface.specs.Event.{Event, request_of, RestartFits, FitsBy}
use Rattle.book.specs.Plain.{step_fault, NewOrder}
use Rattle.cut_rule.specs.Request.{Request, a_call, a_basket, a_step, TypedRequest, world_after_request, map_after_request}

-- 28 is due to a single call and to a book step exactly where it inserts a key, which no check before 28 refuses, and
-- one slot is left that holds no open key: no replace, no remove and no other step of the book meets it. "for baskets,
-- demand 2's sentence on room gives way to 28"
abbrev pub RequestRoom : (l : ℕ) → World → PlainMap → Request → Type 0
RequestRoom l w m (a_call own call) = RoomCorrect l w (InsertsNew l m call) (expected_refusal l w m call)
RequestRoom l w m (a_basket own b) = Unit
RequestRoom l w m (a_step own step) = RoomCorrect l w (NewOrder m step) (step_fault l w m step)

-- before each event and after the last some spare slot may be taken
abbrev pub RoomThroughout : (l : ℕ) → World → PlainMap → List (Event Request) → Type 0
RoomThroughout l =
    Throughout (world_after_request l) (map_after_request l) (λ w m. SomeTakeable l w)
    (λ w m event. RequestRoom l w m (request_of event))

-- "a set grown from a formatted image": the worlds and the plain maps are those of the cut rule, by which each request
-- is refused with the number that is due
abbrev pub GrownRoomIn : (l : ℕ) → Type 0
GrownRoomIn l =
    (len : ℕ) → (slots_of len ≡ 0 → ⊥) → (start : Restart) → RestartFits (slots_of len) start
    → (events : List (Event Request)) → All (FitsBy (TypedRequest l) (slots_of len)) events
    → RoomThroughout l (restarted l (formatted l len) start) (slots_map l (formatted l len)) events

-- for both layouts
abbrev pub GrownRoom : Type 0
GrownRoom = (l : ℕ) → Layout l → GrownRoomIn l
