-- THE LAWS OF ROOM, proved. Assumes nothing.
use mathlib.Core.Path.{sym, subst}
use mathlib.Core.List.{List}
use Prim.Native.Nat.{ℕ}
use native.Mathlib.Omega.{arith}
use Rattle.layout.specs.Size.{slots_in}
use Rattle.layout.specs.Record.{Layout}
use Rattle.plainmap.specs.World.{World, Call, call_result, restarted}
use Rattle.calls.specs.Result.{CallResult}
use Rattle.plainmap.specs.Plain.{PlainMap, Update, updates}
use Rattle.plainmap.specs.Baskets.{Basket, basket_call_result, basket_updates}
use Rattle.plainmap.specs.Consistency.{Refines}
use Rattle.plainmap.proofs.Afters.{after_call}
use Rattle.plainmap.proofs.Wrote.{Stepped}
use Rattle.plainmap.proofs.CallLists.{agrees_stepped}
use Rattle.plainmap.proofs.GrownLists.{agrees_room}
use Rattle.plainmap.proofs.Room.{HasRoom, formatted_room, cut_room, done_room, restarted_room, room_takeable}
use Rattle.interface.specs.Event.{Cut, Event, done, struck, effects_of, step, step_by, image_cut, RestartFits, FitsBy, Fits, done_fits, struck_fits}
use Rattle.interface.specs.Event.{TypedBasket, basket_step}
use Rattle.interface.proofs.defs.RoomLaws.{RoomLaws}
use Rattle.interface.proofs.Events.{basket_steps}

-- ---- the laws

module _ (l : ℕ) (lay : Layout l) where
  -- a request that a cut struck, a single call or a basket, with its result r
  struck_room : (w : World) (m : PlainMap) → Refines l w m → HasRoom l w.image → (us : List Update) (r : CallResult) → Stepped l w us r → (cut : Cut)
      → RestartFits (slots_in w.image) cut.restart → HasRoom l (restarted l (image_cut w (effects_of r) cut) cut.restart).image
  unfolding image_cut
  struck_room w m g room us r stepped cut c =
      let a = after_call l w us r g.accepted cut.counts stepped in
      let f = subst (λ (k : ℕ). RestartFits k cut.restart) (sym a.slot_count) c in
      restarted_room l lay _ a.accepted cut.restart f.rounds f.size (cut_room l w us r g.accepted g.none_void room cut.counts stepped)

  -- ONE EVENT keeps room, of a single call
  event_room : (w : World) (m : PlainMap) → Refines l w m → HasRoom l w.image → (event : Event Call) → Fits l (slots_in w.image) event
      → HasRoom l (step l w event).image
  unfolding step_by
  event_room w m g room (done call) (done_fits s) =
      done_room l w (updates call) (call_result l w call) g.accepted g.none_void room (agrees_stepped l lay w m g call s)
  event_room w m g room (struck call cut) (struck_fits s c) =
      struck_room w m g room (updates call) (call_result l w call) (agrees_stepped l lay w m g call s) cut c

  -- and of a basket
  basket_room : (w : World) (m : PlainMap) → Refines l w m → HasRoom l w.image → (event : Event Basket)
      → FitsBy (TypedBasket l) (slots_in w.image) event → HasRoom l (basket_step l w event).image
  unfolding step_by
  basket_room w m g room (done b) (done_fits s) =
      done_room l w (basket_updates b.changes) (basket_call_result l w b) g.accepted g.none_void room (basket_steps l lay w m g b s)
  basket_room w m g room (struck b cut) (struck_fits s c) =
      struck_room w m g room (basket_updates b.changes) (basket_call_result l w b) (basket_steps l lay w m g b s) cut c

  -- THE LAWS OF ROOM
  pub room_laws : RoomLaws l (Refines l) (HasRoom l)
  room_laws =
      record {
        fresh_room = λ len some. formatted_room l len some (omega (arith, lay.high));
        restart_room = λ image r a fits room.
            restarted_room l lay image a r fits.rounds fits.size room;
        keeps_room = event_room;
        keeps_basket_room = basket_room;
        takeable = λ w m g room. room_takeable l w g.chains g.consistent g.none_void room;
        room_right = agrees_room l lay;
      }
