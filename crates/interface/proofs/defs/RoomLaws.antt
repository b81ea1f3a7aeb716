-- The laws of room by which a layer above knows the set, beside those of SetLaws.
use mathlib.Core.Path.{◌≡◌}
use mathlib.Core.List.{List}
use Prim.Native.Nat.{ℕ}
use lib.ListN.{length}
use Rattle.layout.specs.Size.{slots_of, slots_in}
use Rattle.recovery.specs.Recover.{recover_fault}
use Rattle.calls.specs.Format.{formatted}
use Rattle.plainmap.specs.Accepted.{Accepted}
use Rattle.plainmap.specs.World.{World, Call, Restart, restarted}
use Rattle.plainmap.specs.Plain.{PlainMap}
use Rattle.plainmap.specs.Claims.{expected_refusal}
use Rattle.plainmap.specs.Baskets.{Basket}
use Rattle.interface.specs.Event.{Event, step, RestartFits, FitsBy, Fits, TypedBasket, basket_step}
use Rattle.plainmap.specs.Room.{SomeTakeable, InsertsNew, RoomCorrect}

-- of a set in layout l with the invariant Inv: `Room` is kept from a formatted image on, and nothing else is known of it
pub record RoomLaws (l : ℕ) (Inv : World → PlainMap → Type 0) (Room : List ℕ → Type 0) : Type 0 where
  -- a formatted image has room
  pub fresh_room : (len : ℕ) → (slots_of len ≡ 0 → ⊥) → Room (formatted l len)
  -- a restart keeps it, with any cuts among the invalidating stores
  pub restart_room : (image : List ℕ) (r : Restart) → Accepted l image
      → RestartFits (slots_in image) r → Room image → Room (restarted l image r).image
  -- every event, struck or not, keeps it
  pub keeps_room : (w : World) (m : PlainMap) → Inv w m → Room w.image → (event : Event Call) → Fits l (slots_in w.image) event
      → Room (step l w event).image
  pub keeps_basket_room : (w : World) (m : PlainMap) → Inv w m → Room w.image → (event : Event Basket)
      → FitsBy (TypedBasket l) (slots_in w.image) event → Room (basket_step l w event).image
  -- where there is room some spare slot may be taken, and 28 is due only to an insert: a replace and a remove never meet it
  pub takeable : (w : World) (m : PlainMap) → Inv w m → Room w.image → SomeTakeable l w
  pub room_right : (w : World) (m : PlainMap) → Inv w m → Room w.image → (call : Call) → RoomCorrect l w (InsertsNew l m call) (expected_refusal l w m call)
