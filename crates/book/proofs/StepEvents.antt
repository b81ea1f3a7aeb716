-- An event of a book step is an event of the set's call that the step comes to. Assumes nothing.
use mathlib.Core.Path.{◌≡◌, refl, sym, ap, ap₂, ◌∙◌, subst}
use mathlib.Core.Logic.{by_cases}
use mathlib.Core.Bool.{Bool, true, false, cond, not}
use mathlib.Core.Option.{Option, some, none}
use mathlib.Core.List.{List, [], ◌∷◌}
use Prim.Native.Nat.{ℕ}
use native.Mathlib.Decide.{ℕ_discrete}
use lib.Dec.{eqb}
use borrow.Author.Tests.{ne_eqb}
use Rattle.prelude.specs.Answer.{refuses}
use Rattle.prelude.specs.Members.{All, none_left, one_more}
use Rattle.prelude.proofs.Choice.{pick_true}
use Rattle.prelude.proofs.Refusals.{or_else_zero, taken_leaves, refused_keeps, by_refusal}
use Rattle.interface.specs.Set.{World, Insert, Replace, Call, write, remove, locate, call_result, PlainMap, Update, updates, plain_next, plain_step, rule_fault}
use Rattle.interface.specs.Set.{Typed, write_typed, remove_typed, locate_typed, expected_refusal, slots_in}
use Rattle.interface.specs.Event.{Cut, Event, done, struck, Effects, effects_of, step_by, image_cut, step, is_whole, plain_event, map_after_event, FitsBy}
use Rattle.interface.specs.Event.{done_fits}
use Rattle.interface.specs.Event.{struck_fits, Fits}
use Rattle.interface.specs.Plays.{PlaysSingle}
use Rattle.interface.specs.Recovers.{RecoversAlways}
use Rattle.interface.specs.Laws.{SetLaws}
use Rattle.book.specs.Orders.{order_bytes, acknowledged, filled_by, open_of, sent}
use Rattle.book.specs.Steps.{Step, new, acknowledge, fill, withdraw}
use Rattle.book.specs.Plain.{step_key, order_in, book_fault, call_by, step_call, call_fault, step_fault, updates_by, step_updates, call_or, call_for, TypedStep}
use Rattle.book.specs.Plain.{new_typed, acknowledge_typed, fill_typed, withdraw_typed, step_effects, world_after_step, map_after_step}
use Rattle.book.specs.Totals.{world_at_end, map_at_end}
use Rattle.book.specs.declared.Order.{Order}
use Rattle.book.proofs.defs.CallEvent.{call_event}
use Rattle.book.proofs.OrderBytes.{order-bytes}
use Rattle.book.proofs.Steps.{step_right}

-- ---- the call is typed

module _ (l : ℕ) where
  either : (key : ℕ) (b : Bool) (p q : Option Call) → Typed l (call_or key p) → Typed l (call_or key q) → Typed l (call_or key (cond b p q))
  either key true p q x y = x
  either key false p q x y = y

  by_typed : (held : Option Order) (step : Step) → TypedStep l step → Typed l (call_or (step_key step) (call_by held step))
  unfolding call_by call_or
  by_typed none (new key quantity) (new_typed k q) = write_typed k (order-bytes (sent quantity))
  by_typed none (acknowledge key) (acknowledge_typed k) = locate_typed
  by_typed none (fill key quantity) (fill_typed k q) = locate_typed
  by_typed none (withdraw key) (withdraw_typed k) = locate_typed
  by_typed (some o) (new key quantity) (new_typed k q) = write_typed k (order-bytes (sent quantity))
  by_typed (some o) (acknowledge key) (acknowledge_typed k) =
      either key (eqb o.state 2) none (some (write Replace key (order_bytes (acknowledged o)))) locate_typed (write_typed k (order-bytes (acknowledged o)))
  by_typed (some o) (fill key quantity) (fill_typed k q) =
      either key (eqb quantity (open_of o)) (some (remove key)) (some (write Replace key (order_bytes (filled_by quantity o)))) (remove_typed k)
      (write_typed k (order-bytes (filled_by quantity o)))
  by_typed (some o) (withdraw key) (withdraw_typed k) = remove_typed k

  call_typed : (w : World) (m : PlainMap) (step : Step) → TypedStep l step → Typed l (call_for l w m step)
  unfolding call_for step_call call_or
  call_typed w m step t =
      by_refusal (Typed l) (step_fault l w m step) _ _
      (by_refusal (λ (c : Option Call). Typed l (call_or (step_key step) c)) (book_fault m step) _ _
      (by_typed (order_in (m (step_key step))) step t) locate_typed)
      locate_typed

-- ---- the plain map

module _ (l : ℕ) (w : World) (m : PlainMap) (step : Step) where
  -- a locate keeps the plain map
  located_map : (call : Call) (key : ℕ) → call ≡ locate key → m ≡ plain_step (updates call) (refuses (expected_refusal l w m call)) m
  unfolding plain_step updates plain_next rule_fault refuses
  located_map call key e = sym (ap (λ (c : Call). plain_step (updates c) (refuses (expected_refusal l w m c)) m) e)

  by_map : (call : Option Call) → call_fault l w m call ≡ 0
      → plain_step (updates_by call) (refuses 0) m ≡
      plain_step (updates (call_or (step_key step) call)) (refuses (expected_refusal l w m (call_or (step_key step) call))) m
  unfolding call_fault updates_by call_or updates rule_fault plain_next
  by_map none z = refl
  by_map (some call) z = ap (λ (k : ℕ). plain_step (updates call) (refuses k) m) (sym z)

  -- a step that is refused keeps it too
  refused_map : (us : List Update) (k : ℕ) → (k ≡ 0 → ⊥) → plain_step us (refuses k) m ≡ m
  unfolding plain_step refuses
  refused_map us k nz = pick_true _ _ _ (ap not (ne_eqb k 0 nz))

  call_zero : step_fault l w m step ≡ 0 → call_fault l w m (step_call m step) ≡ 0
  unfolding step_fault
  call_zero z = (or_else_zero (book_fault m step) _ z).1

  step_map : plain_step (step_updates m step) (refuses (step_fault l w m step)) m ≡
      plain_step (updates (call_for l w m step)) (refuses (expected_refusal l w m (call_for l w m step))) m
  unfolding step_updates call_for
  step_map =
      by_cases (ℕ_discrete (step_fault l w m step) 0)
      (λ z. ap (λ (k : ℕ). plain_step (step_updates m step) (refuses k) m) z
      ∙ by_map (step_call m step) (call_zero z)
      ∙ sym (ap (λ (c : Call). plain_step (updates c) (refuses (expected_refusal l w m c)) m) (taken_leaves _ _ (step_fault l w m step) z)))
      (λ nz. refused_map _ (step_fault l w m step) nz ∙ located_map _ _ (refused_keeps _ _ (step_fault l w m step) nz))

-- ---- events

-- its call's event fits
pub step_event_fits : (l : ℕ) (w : World) (m : PlainMap) (event : Event Step) → FitsBy (TypedStep l) (slots_in w.image) event
    → Fits l (slots_in w.image) (call_event l w m event)
unfolding call_event
step_event_fits l w m (done step) (done_fits t) = done_fits (call_typed l w m step t)
step_event_fits l w m (struck step cut) (struck_fits t f) = struck_fits (call_typed l w m step t) f

module _ (l : ℕ) (Inv : World → PlainMap → Type 0) (laws : SetLaws l Inv) (w : World) (m : PlainMap) (i : Inv w m) (event : Event Step)
    (fits : FitsBy (TypedStep l) (slots_in w.image) event) where
  -- the set after it is that after its call's event
  pub step-event_world : world_after_step l w event ≡ step l w (call_event l w m event)
  unfolding call_event step_by
  step-event_world = go event fits
    where
      go : (e : Event Step) → FitsBy (TypedStep l) (slots_in w.image) e → world_after_step l w e ≡ step l w (call_event l w m e)
      go (done request) (done_fits t) =
          ap (λ (r : Effects). step_by l (λ v x. r) w (done request)) (step_right l Inv laws w m i request t).leaves
      go (struck request cut) (struck_fits t f) =
          ap (λ (r : Effects). step_by l (λ v x. r) w (struck request cut)) (step_right l Inv laws w m i request t).leaves

  -- and so is the plain map
  pub step_event_map : map_after_step l w m event ≡ map_after_event l w m (call_event l w m event)
  unfolding call_event plain_event is_whole
  step_event_map = go event fits
    where
      go : (e : Event Step) → FitsBy (TypedStep l) (slots_in w.image) e → map_after_step l w m e ≡ map_after_event l w m (call_event l w m e)
      go (done request) (done_fits t) = step_map l w m request
      go (struck request cut) (struck_fits t f) =
          ap₂ (λ (r : Effects) (p : PlainMap). cond (is_whole (λ v x. r) w (struck request cut)) p m) (step_right l Inv laws w m i request t).leaves
          (step_map l w m request)

  -- an event of a step keeps the invariant, with the plain map's next map
  pub step_event_keeps : Inv (world_after_step l w event) (map_after_step l w m event)
  step_event_keeps =
      subst (λ (v : World). Inv v (map_after_step l w m event)) (sym step-event_world)
      (subst (Inv (step l w (call_event l w m event))) (sym step_event_map)
      (laws.keeps w m i (call_event l w m event) (step_event_fits l w m event fits)))

  -- and the number of slots
  pub step_event_slots : slots_in (world_after_step l w event).image ≡ slots_in w.image
  step_event_slots =
      ap (λ (v : World). slots_in v.image) step-event_world ∙ laws.keeps_slots w m i (call_event l w m event) (step_event_fits l w m event fits)

  -- play makes of its stores the image that the next request or recovery gets
  pub step_event_plays : PlaysSingle l (step_effects l) w event
  unfolding call_event step_by
  step_event_plays = go event fits
    where
      go : (e : Event Step) → FitsBy (TypedStep l) (slots_in w.image) e → PlaysSingle l (step_effects l) w e
      go (done request) (done_fits t) =
          subst (λ (r : Effects). PlaysSingle l (λ v x. r) w (done request)) (sym (step_right l Inv laws w m i request t).leaves)
          (laws.plays_event w m i (done (call_for l w m request)) (step_event_fits l w m (done request) (done_fits t)))
      go (struck request cut) (struck_fits t f) =
          subst (λ (r : Effects). PlaysSingle l (λ v x. r) w (struck request cut)) (sym (step_right l Inv laws w m i request t).leaves)
          (laws.plays_event w m i (struck (call_for l w m request) cut) (step_event_fits l w m (struck request cut) (struck_fits t f)))

-- after a cut recovery gives the plain map's next map of each image on the way
module _ (l : ℕ) (Inv : World → PlainMap → Type 0) (laws : SetLaws l Inv) (w : World) (m : PlainMap) (i : Inv w m) (request : Step) (cut : Cut)
    (fits : FitsBy (TypedStep l) (slots_in w.image) (struck request cut)) where
  typed_step : FitsBy (TypedStep l) (slots_in w.image) (struck request cut) → TypedStep l request
  typed_step (struck_fits t f) = t

  pub step_always : RecoversAlways l (image_cut w (step_effects l w request) cut) (map_after_step l w m (struck request cut))
  unfolding call_event
  step_always =
      subst (λ (r : Effects). RecoversAlways l (image_cut w r cut) (map_after_step l w m (struck request cut)))
      (sym (step_right l Inv laws w m i request (typed_step fits)).leaves)
      (subst (λ (p : PlainMap). RecoversAlways l (image_cut w (effects_of (call_result l w (call_for l w m request))) cut) p)
      (sym (step_event_map l Inv laws w m i (struck request cut) fits))
      (laws.keeps_always w m i (call_for l w m request) cut (step_event_fits l w m (struck request cut) fits)))

-- every list of events of steps keeps the invariant, with the plain map at the end
module _ (l : ℕ) (Inv : World → PlainMap → Type 0) (laws : SetLaws l Inv) (n : ℕ) where
  pub to_end : (w : World) (m : PlainMap) (events : List (Event Step)) → Inv w m → slots_in w.image ≡ n
      → All (FitsBy (TypedStep l) n) events → Inv (world_at_end l w events) (map_at_end l w m events)
  unfolding world_at_end map_at_end
  to_end w m [] i e none_left = i
  to_end w m (event ∷ events) i e (one_more f rest) =
      let here = subst (λ (k : ℕ). FitsBy (TypedStep l) k event) (sym e) f in
      to_end (world_after_step l w event) (map_after_step l w m event) events (step_event_keeps l Inv laws w m i event here)
      (step_event_slots l Inv laws w m i event here ∙ e) rest
