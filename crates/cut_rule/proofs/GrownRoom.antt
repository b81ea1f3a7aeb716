-- ROOM ON A GROWN SET, proved from the laws of room by the one induction over lists. Assumes nothing.
use mathlib.Core.Path.{◌≡◌, sym, ap, subst, ◌∙◌}
use mathlib.Core.List.{List}
use Prim.Native.Nat.{ℕ}
use lib.ListN.{length}
use Rattle.prelude.specs.Members.{All}
use Rattle.prelude.proofs.Histories.{throughout}
use Rattle.interface.specs.Set.{World, PlainMap, Layout, slots_in, slots_of, formatted, Restart, restarted, Accepted}
use Rattle.interface.specs.Event.{Event, done, struck, Effects, request_of, step_by, RestartFits, FitsBy, done_fits, struck_fits}
use Rattle.interface.specs.Laws.{CallLaws, SetLaws}
use Rattle.interface.proofs.defs.RoomLaws.{RoomLaws}
use Rattle.interface.proofs.SetLaws.{call_laws, set_laws}
use Rattle.interface.proofs.Rooms.{room_laws}
use Rattle.book.proofs.StepRoom.{step_room, step_event_room}
use Rattle.cut_rule.specs.Request.{Request, a_call, a_basket, a_step, TypedRequest, world_after_request}
use Rattle.cut_rule.specs.GrownRoom.{RequestRoom, RoomThroughout, GrownRoomIn, GrownRoom}
use Rattle.cut_rule.proofs.CutRule.{of_either, InvOf, fits_here, keeps_of}

module _ (l : ℕ) (lay : Layout l) (Inv : World → PlainMap → Type 0) (Room : List ℕ → Type 0) (laws : SetLaws l Inv)
    (rooms : RoomLaws l Inv Room) where
  module _ (w : World) (m : PlainMap) (i : Inv w m) (room : Room w.image) where
    room_right : (request : Request) → RequestRoom l w m request
    room_right (a_call own call) = rooms.room_right w m i room call
    room_right (a_basket own b) = tt
    room_right (a_step own step) = step_room l lay w m (rooms.room_right w m i room) step

    -- room after an event, by what its request leaves
    abbrev pub RoomBy : Event Request → (World → Request → Effects) → Type 0
    RoomBy event leaves = Room (step_by l leaves w event).image

    -- an event keeps room
    keeps_room : (event : Event Request) → FitsBy (TypedRequest l) (slots_in w.image) event → Room (world_after_request l w event).image
    unfolding step_by
    keeps_room (done (a_call own call)) (done_fits t) =
        of_either l Inv laws w m i (RoomBy (done (a_call own call))) (rooms.keeps_room w m i room (done call) (done_fits t))
    keeps_room (done (a_basket own b)) (done_fits t) =
        of_either l Inv laws w m i (RoomBy (done (a_basket own b))) (rooms.keeps_basket_room w m i room (done b) (done_fits t))
    keeps_room (done (a_step own step)) (done_fits t) =
        of_either l Inv laws w m i (RoomBy (done (a_step own step))) (step_event_room l Inv Room laws rooms w m i room (done step) (done_fits t))
    keeps_room (struck (a_call own call) cut) (struck_fits t c) =
        of_either l Inv laws w m i (RoomBy (struck (a_call own call) cut)) (rooms.keeps_room w m i room (struck call cut) (struck_fits t c))
    keeps_room (struck (a_basket own b) cut) (struck_fits t c) =
        of_either l Inv laws w m i (RoomBy (struck (a_basket own b) cut)) (rooms.keeps_basket_room w m i room (struck b cut) (struck_fits t c))
    keeps_room (struck (a_step own step) cut) (struck_fits t c) =
        of_either l Inv laws w m i (RoomBy (struck (a_step own step) cut))
        (step_event_room l Inv Room laws rooms w m i room (struck step cut) (struck_fits t c))

  -- ---- every list

  pub room_throughout : (n : ℕ) (w : World) (m : PlainMap) (events : List (Event Request)) → InvOf l Inv laws n w m → Room w.image
      → All (FitsBy (TypedRequest l) n) events → RoomThroughout l w m events
  room_throughout n w m events i room fit =
      throughout _ _ _ _ (λ v p. InvOf l Inv laws n v p × Room v.image) (FitsBy (TypedRequest l) n)
      (λ v p j. rooms.takeable v p j.0.0 j.1)
      (λ v p j event f. room_right v p j.0.0 j.1 (request_of event))
      (λ v p j event f.
      (keeps_of l Inv laws n v p j.0 event f, keeps_room v p j.0.0 j.1 event (fits_here l Inv laws n v p event j.0 f)))
      w m events (i, room) fit

  -- from a formatted image
  from_format : CallLaws l → GrownRoomIn l
  from_format calls len some start restart events fit =
      let same : slots_in (formatted l len) ≡ slots_of len = ap slots_of (calls.formatted-length len) in
      let fits = subst (λ (n : ℕ). RestartFits n start) (sym same) restart in
      let z : Accepted l (formatted l len) = (laws.fresh len start.lent.heads start.lent.next some restart.size).0 in
      room_throughout (slots_of len) (restarted l (formatted l len) start) _ events
      (laws.after-recovery (formatted l len) start z fits, calls.restart_slots (formatted l len) start ∙ same)
      (rooms.restart_room (formatted l len) start z fits (rooms.fresh_room len some)) fit

-- ROOM ON A GROWN SET
pub grown_room : GrownRoom
grown_room l layout = from_format l layout _ _ (set_laws l layout) (room_laws l layout) (call_laws l layout)
