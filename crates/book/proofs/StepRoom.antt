-- Room for the book's steps on a set that grew from a formatted image. Assumes nothing.
use mathlib.Core.Path.{◌≡◌, sym, ap, ◌∙◌, subst}
use mathlib.Core.Logic.{by_cases}
use mathlib.Core.Bool.{Bool, true, false, cond}
use mathlib.Core.Option.{Option, some, none}
use mathlib.Core.List.{List}
use Prim.Native.Nat.{ℕ}
use native.Mathlib.Omega.{arith}
use native.Mathlib.Decide.{ℕ_discrete}
use lib.Dec.{eqb, ltb}
use Rattle.prelude.specs.Refusal.{refuse_if}
use Rattle.prelude.proofs.Refusals.{refuse_if_zero, or_else_first, or_else_later, taken_leaves}
use Rattle.interface.specs.Set.{World, Layout, Insert, Replace, Call, write, remove, PlainMap, is_held, expected_refusal, slots_in, InsertsNew, RoomCorrect}
use Rattle.interface.specs.Event.{Event, FitsBy}
use Rattle.interface.specs.Laws.{SetLaws}
use Rattle.interface.proofs.defs.RoomLaws.{RoomLaws}
use Rattle.book.specs.Orders.{order_bytes, sent, acknowledged, filled_by, open_of}
use Rattle.book.specs.Steps.{Step, new, acknowledge, fill, withdraw, quantity_fault}
use Rattle.book.specs.Plain.{step_key, order_in, order_fault, book_fault, call_by, step_call, call_fault, step_fault, TypedStep, NewOrder, world_after_step}
use Rattle.book.specs.declared.Order.{Order}
use Rattle.book.proofs.defs.CallEvent.{call_event}
use Rattle.book.proofs.OrderBytes.{order_length}
use Rattle.book.proofs.StepEvents.{step_event_fits, step-event_world}

-- ---- 28

-- the book's own rules never have 28
book_28 : (m : PlainMap) (step : Step) → book_fault m step ≡ 28 → ⊥
unfolding book_fault order_fault quantity_fault refuse_if
book_28 m (new key quantity) e = go (is_held (m key)) (eqb quantity 0) e
  where
    go : (a b : Bool) → refuse_if a 17 (refuse_if b 19 0) ≡ 28 → ⊥
    go true b e = omega arith
    go false true e = omega arith
    go false false e = omega arith
book_28 m (acknowledge key) e = go (order_in (m key)) e
  where
    go : (held : Option Order) → order_fault held (acknowledge key) ≡ 28 → ⊥
    go none e = omega arith
    go (some o) e = omega arith
book_28 m (fill key quantity) e = go (order_in (m key)) e
  where
    of : (a b : Bool) → refuse_if a 19 (refuse_if b 19 0) ≡ 28 → ⊥
    of true b e = omega arith
    of false true e = omega arith
    of false false e = omega arith

    go : (held : Option Order) → order_fault held (fill key quantity) ≡ 28 → ⊥
    go none e = omega arith
    go (some o) e = of (eqb quantity 0) (ltb (open_of o) quantity) e
book_28 m (withdraw key) e = go (order_in (m key)) e
  where
    go : (held : Option Order) → order_fault held (withdraw key) ≡ 28 → ⊥
    go none e = omega arith
    go (some o) e = omega arith

module _ (l : ℕ) (lay : Layout l) (w : World) (m : PlainMap) (room : (call : Call) → RoomCorrect l w (InsertsNew l m call) (expected_refusal l w m call)) where
  -- so 28 is that of the call to which the step comes
  of_call : (step : Step) → step_fault l w m step ≡ 28
      → (book_fault m step ≡ 0) × (call_fault l w m (call_by (order_in (m (step_key step))) step) ≡ 28)
  unfolding step_fault step_call
  of_call step e =
      by_cases (ℕ_discrete (book_fault m step) 0)
      (λ z. (z, sym (or_else_later (book_fault m step) _ z ∙ ap (call_fault l w m) (taken_leaves _ _ (book_fault m step) z)) ∙ e))
      (λ nz. absurd (book_28 m step (sym (or_else_first (book_fault m step) _ nz) ∙ e)))

  by_call : (step : Step) → book_fault m step ≡ 0 → step_fault l w m step ≡ call_fault l w m (call_by (order_in (m (step_key step))) step)
  unfolding step_fault step_call
  by_call step z = or_else_later (book_fault m step) _ z ∙ ap (call_fault l w m) (taken_leaves _ _ (book_fault m step) z)

  -- a replace and a remove never meet it
  abbrev Never : Option Call → Type 0
  Never call = call_fault l w m call ≡ 28 → ⊥

  no_call : Never none
  unfolding call_fault
  no_call e = omega arith

  no_replace : (key : ℕ) (value : List ℕ) → Never (some (write Replace key value))
  unfolding call_fault
  no_replace key value e = (room (write Replace key value)).only_new e

  no_remove : (key : ℕ) → Never (some (remove key))
  unfolding call_fault
  no_remove key e = (room (remove key)).only_new e

  either : (b : Bool) (p q : Option Call) → Never p → Never q → Never (cond b p q)
  either true p q x y = x
  either false p q x y = y

  acknowledge_never : (held : Option Order) (key : ℕ) → Never (call_by held (acknowledge key))
  unfolding call_by
  acknowledge_never none key = no_call
  acknowledge_never (some o) key =
      either (eqb o.state 2) none (some (write Replace key (order_bytes (acknowledged o)))) no_call (no_replace key _)

  fill_never : (held : Option Order) (key quantity : ℕ) → Never (call_by held (fill key quantity))
  unfolding call_by
  fill_never none key quantity = no_call
  fill_never (some o) key quantity =
      either (eqb quantity (open_of o)) (some (remove key)) (some (write Replace key (order_bytes (filled_by quantity o)))) (no_remove key) (no_replace key _)

  withdraw_never : (held : Option Order) (key : ℕ) → Never (call_by held (withdraw key))
  unfolding call_by
  withdraw_never none key = no_call
  withdraw_never (some o) key = no_remove key

  never : (step : Step) → Never (call_by (order_in (m (step_key step))) step) → RoomCorrect l w ⊥ (step_fault l w m step)
  never step h = record { met = λ x one. absurd x; only_new = λ e. h (of_call step e).1; only_left = λ e. absurd (h (of_call step e).1) }

  -- 28 EXACTLY where a new order finds one slot left: the other steps never meet it
  pub step_room : (step : Step) → RoomCorrect l w (NewOrder m step) (step_fault l w m step)
  unfolding call_by call_fault book_fault
  step_room (new key quantity) =
      let insert = room (write Insert key (order_bytes (sent quantity))) in
      record {
        met = λ z one.
            by_call (new key quantity) z
            ∙ insert.met (omega (arith, order_length (sent quantity), lay.high), (refuse_if_zero (is_held (m key)) 17 _ z (omega arith)).0) one;
        only_new = λ e. (of_call (new key quantity) e).0;
        only_left = λ e. insert.only_left (of_call (new key quantity) e).1;
      }
  step_room (acknowledge key) = never (acknowledge key) (acknowledge_never (order_in (m key)) key)
  step_room (fill key quantity) = never (fill key quantity) (fill_never (order_in (m key)) key quantity)
  step_room (withdraw key) = never (withdraw key) (withdraw_never (order_in (m key)) key)

-- ---- events

-- an event of a step keeps room
pub step_event_room : (l : ℕ) (Inv : World → PlainMap → Type 0) (Room : List ℕ → Type 0) → SetLaws l Inv → RoomLaws l Inv Room
    → (w : World) (m : PlainMap) → Inv w m → Room w.image → (event : Event Step) → FitsBy (TypedStep l) (slots_in w.image) event
    → Room (world_after_step l w event).image
step_event_room l Inv Room laws rooms w m i room event fits =
    subst (λ (v : World). Room v.image) (sym (step-event_world l Inv laws w m i event fits))
    (rooms.keeps_room w m i room (call_event l w m event) (step_event_fits l w m event fits))
