-- CONSERVATION: a step moves quantity between the totals and what is open, and changes the plain map at its key alone. Assumes nothing.
use mathlib.Core.Path.{◌≡◌, refl, sym, ap, subst, ◌∙◌}
use mathlib.Core.Bool.{Bool, true, false, cond, not, ◌&&◌}
use mathlib.Core.Option.{Option, some, none}
use mathlib.Core.Logic.{by_cases}
use mathlib.Core.List.{List, [], ◌∷◌}
use Prim.Native.Nat.{ℕ, ◌+◌, ◌^◌, ◌≤◌, ◌<◌}
use native.Mathlib.Decide.{ℕ_discrete}
use native.Mathlib.Omega.{arith}
use lib.Dec.{eqb, ltb}
use borrow.Author.Tests.{eqb-true, eqb-false, eq-eqb, ne_eqb, ltb-false}
use Rattle.prelude.specs.Answer.{refuses}
use Rattle.prelude.specs.Members.{All, none_left, one_more}
use Rattle.prelude.specs.Refusal.{refuse_if}
use Rattle.prelude.proofs.Choice.{pick_true, pick_false, true-false}
use Rattle.prelude.proofs.Histories.{throughout}
use Rattle.prelude.proofs.Refusals.{refuse_if_zero, or_else_zero, taken_leaves}
use Rattle.interface.proofs.SetLaws.{call_laws, set_laws}
use Rattle.interface.specs.Set.{Layout, World, Insert, Replace, Call, write, remove, PlainMap, giving, dropping, updates, updated, plain_next, plain_step}
use Rattle.interface.specs.Set.{is_held, Holds, holds, Keys, restarted, slots_in, slots_map}
use Rattle.interface.specs.Laws.{SetLaws}
use Rattle.interface.specs.Event.{Event, request_of, is_whole, plain_event, FitsBy, done_fits, struck_fits}
use Rattle.book.specs.declared.Order.{Order}
use Rattle.book.specs.Orders.{order_bytes, order_of, is_order, is_state, open_of, sent, acknowledged, filled_by}
use Rattle.book.specs.Steps.{Step, new, acknowledge, fill, withdraw, BookAnswer, taken, already, declined, quantity_fault, booked}
use Rattle.book.specs.Plain.{step_key, order_in, order_fault, book_fault, call_by, step_call, step_fault, answer_for, step_answer, updates_by, step_updates}
use Rattle.book.specs.Plain.{refusal_number, StepCorrect, TypedStep, new_typed, acknowledge_typed, fill_typed, withdraw_typed, step_effects}
use Rattle.book.specs.Plain.{world_after_step, map_after_step}
use Rattle.book.specs.Totals.{open_held, of_held, ordered_in, filled_in, withdrawn_in, is_accepted, is_counted, total_of, map_at_end, open_total, StepsCorrect}
use Rattle.book.specs.Totals.{Conservation}
use Rattle.book.proofs.OrderBytes.{BookOrder, BookRecord, order_back, order_record, record_order}
use Rattle.book.proofs.StepEvents.{step_event_keeps, step_event_slots, to_end}
use Rattle.book.proofs.Steps.{step_right}
use Rattle.prelude.proofs.Keys.{some-none, Listed, listed, next_listed}
use Rattle.book.proofs.Sums.{open_same, open_but_one}

-- every value of the map is a book record
abbrev pub Records : PlainMap → Type 0
Records m = (key : ℕ) (value : List ℕ) → m key ≡ some value → BookRecord value

-- ordered, filled and withdrawn by these quantities, the map m becomes m', at one key
pub record Moved (key ordered filled withdrawn : ℕ) (m m' : PlainMap) : Type 0 where
  pub elsewhere : (k : ℕ) → (k ≡ key → ⊥) → m' k ≡ m k
  pub records : (value : List ℕ) → m' key ≡ some value → BookRecord value
  pub balance : ordered + open_held (m key) ≡ filled + withdrawn + open_held (m' key)

same-value : {u v : List ℕ} {held : Option (List ℕ)} → held ≡ some u → held ≡ some v → u ≡ v
same-value {u} {v} {held} p q = cc

-- ---- what a call makes of the map

-- no call
stays : (m : PlainMap) → Records m → (key : ℕ) → Moved key 0 0 0 m m
stays m r key = record { elsewhere = λ k ne. refl; records = r key; balance = refl }

module _ (m : PlainMap) (key ordered filled withdrawn : ℕ) where
  write_moves : (o : Order) → BookOrder o → ordered + open_held (m key) ≡ filled + withdrawn + open_of o
      → Moved key ordered filled withdrawn m (plain_next (giving key (order_bytes o) ∷ []) m)
  unfolding plain_next updated of_held
  write_moves o s q =
      record {
        elsewhere = λ k ne. pick_false (eqb k key) _ _ (ne_eqb k key ne);
        records = λ value h. subst BookRecord (same-value here h) (order_record o s);
        balance = omega (arith, ap open_held here, ap open_of (order_back o s));
      }
    where
      here : cond (eqb key key) (some (order_bytes o)) (m key) ≡ some (order_bytes o)
      here = pick_true (eqb key key) _ _ (eq-eqb key key refl)

  remove_moves : ordered + open_held (m key) ≡ filled + withdrawn → Moved key ordered filled withdrawn m (plain_next (dropping key ∷ []) m)
  unfolding plain_next updated of_held
  remove_moves q =
      record {
        elsewhere = λ k ne. pick_false (eqb k key) _ _ (ne_eqb k key ne);
        records = λ value h. absurd (some-none h here);
        balance = omega (arith, ap open_held here);
      }
    where
      here : cond (eqb key key) none (m key) ≡ none
      here = pick_true (eqb key key) _ _ (eq-eqb key key refl)

-- ---- what a step that is not refused makes of it

-- the map after the call that a step comes to
abbrev after : PlainMap → Option Call → PlainMap
after m call = plain_next (updates_by call) m

quantity_fits : (quantity left : ℕ) → quantity_fault quantity left ≡ 0 → (0 < quantity) × (quantity ≤ left)
unfolding quantity_fault
quantity_fits quantity left z =
    let first = refuse_if_zero (eqb quantity 0) 19 _ z (omega arith) in
    let second = refuse_if_zero (ltb left quantity) 19 0 first.1 (omega arith) in
    (omega (arith, eqb-false quantity 0 first.0), ltb-false left quantity second.0)

module _ (m : PlainMap) (r : Records m) (key : ℕ) where
  -- a new order, whose key is not held
  new_moves : (quantity : ℕ) → quantity < 2 ^ 64 → m key ≡ none → refuse_if (eqb quantity 0) 19 0 ≡ 0
      → Moved key quantity 0 0 m (after m (some (write Insert key (order_bytes (sent quantity)))))
  unfolding updates_by updates sent of_held is_state
  new_moves quantity h e z =
      write_moves m key quantity 0 0 (sent quantity)
      (record { state = refl; part = omega (arith, eqb-false quantity 0 (refuse_if_zero (eqb quantity 0) 19 0 z (omega arith)).0); size = h })
      (omega (arith, ap open_held e))

  -- the order o that the key holds
  module _ (o : Order) (s : BookOrder o) (e : open_held (m key) ≡ open_of o) where
    acknowledge_moves : Moved key 0 0 0 m (after m (call_by (some o) (acknowledge key)))
    unfolding call_by updates_by updates plain_next acknowledged is_state
    acknowledge_moves = go (eqb o.state 2)
      where
        go : (b : Bool) → Moved key 0 0 0 m (after m (cond b none (some (write Replace key (order_bytes (acknowledged o))))))
        go true = stays m r key
        go false = write_moves m key 0 0 0 (acknowledged o) (record { state = refl; part = s.part; size = s.size }) (omega arith)

    fill_moves : (quantity : ℕ) → quantity_fault quantity (open_of o) ≡ 0
        → Moved key 0 quantity 0 m (after m (call_by (some o) (fill key quantity)))
    unfolding call_by updates_by updates filled_by
    fill_moves quantity z = go (eqb quantity (open_of o)) refl (quantity_fits quantity (open_of o) z)
      where
        go : (b : Bool) → eqb quantity (open_of o) ≡ b → (0 < quantity) × (quantity ≤ open_of o)
            → Moved key 0 quantity 0 m (after m (cond b (some (remove key)) (some (write Replace key (order_bytes (filled_by quantity o))))))
        go true d h = remove_moves m key 0 quantity 0 (omega (arith, eqb-true quantity (open_of o) d))
        go false d h =
            write_moves m key 0 quantity 0 (filled_by quantity o)
            (record { state = s.state; part = omega (arith, s.part, eqb-false quantity (open_of o) d, h.1); size = s.size })
            (omega (arith, s.part, h.1))

    withdraw_moves : Moved key 0 0 (open_held (m key)) m (after m (call_by (some o) (withdraw key)))
    unfolding call_by updates_by updates
    withdraw_moves = remove_moves m key 0 0 (open_held (m key)) refl

  -- by a fault with number 18 where there is no order: the key holds one
  by_order : (fault : Option Order → ℕ) → fault none ≡ 18 → fault (order_in (m key)) ≡ 0 → (P : Option Order → Type 0)
      → ((o : Order) → BookOrder o → open_held (m key) ≡ open_of o → fault (some o) ≡ 0 → P (some o)) → P (order_in (m key))
  unfolding order_in of_held
  by_order fault none-18 z P h = go (m key) refl
    where
      go : (held : Option (List ℕ)) → m key ≡ held → P (order_in (m key))
      go none e = absurd (let n : ◌≡◌ {A = ℕ} 0 18 = sym z ∙ ap (λ (x : Option (List ℕ)). fault (order_in x)) e ∙ none-18 in omega arith)
      go (some value) e =
          let b = r key value e in
          let d : order_in (m key) ≡ some (order_of value) = ap order_in e ∙ pick_true (is_order value) _ _ b.order in
          subst P (sym d) (h (order_of value) (record_order value b) (ap open_held e) (sym (ap fault d) ∙ z))

-- a step moves the quantities that it adds to the totals
abbrev Moves : PlainMap → Step → PlainMap → Type 0
Moves m step m' = Moved (step_key step) (ordered_in m step) (filled_in m step) (withdrawn_in m step) m m'

not-held : (held : Option (List ℕ)) → is_held held ≡ false → held ≡ none
unfolding is_held
not-held none e = refl
not-held (some value) e = absurd (true-false refl e)

module _ (l : ℕ) (m : PlainMap) (r : Records m) where
  by_call : (step : Step) → TypedStep l step → book_fault m step ≡ 0
      → Moves m step (after m (call_by (order_in (m (step_key step))) step))
  unfolding book_fault order_fault call_by ordered_in filled_in withdrawn_in
  by_call (new key quantity) (new_typed k h) z =
      let free = refuse_if_zero (is_held (m key)) 17 _ z (omega arith) in
      new_moves m r key quantity h (not-held (m key) free.0) free.1
  by_call (acknowledge key) (acknowledge_typed k) z =
      by_order m r key (λ o. order_fault o (acknowledge key)) refl z
      (λ o. Moved key 0 0 0 m (after m (call_by o (acknowledge key)))) (λ o s e q. acknowledge_moves m r key o s e)
  by_call (fill key quantity) (fill_typed k h) z =
      by_order m r key (λ o. order_fault o (fill key quantity)) refl z
      (λ o. Moved key 0 quantity 0 m (after m (call_by o (fill key quantity)))) (λ o s e q. fill_moves m r key o s e quantity q)
  by_call (withdraw key) (withdraw_typed k) z =
      by_order m r key (λ o. order_fault o (withdraw key)) refl z
      (λ o. Moved key 0 0 (open_held (m key)) m (after m (call_by o (withdraw key)))) (λ o s e q. withdraw_moves m r key o s e)

  -- a step that the book's rules do not refuse
  step_moves : (step : Step) → TypedStep l step → book_fault m step ≡ 0 → Moves m step (plain_next (step_updates m step) m)
  unfolding step_updates step_call
  step_moves step typed z =
      subst (λ call. Moves m step (after m call)) (sym (taken_leaves _ _ (book_fault m step) z)) (by_call step typed z)

  -- ---- an event

  module _ (w : World) (step : Step) (typed : TypedStep l step) where
    abbrev fault : ℕ
    fault = step_fault l w m step

    -- what the step adds to a total
    abbrev adds : (stand : Bool) → ℕ → ℕ
    adds stand quantity = cond (stand && not (refuses fault)) quantity 0

    -- an event of the step, whose stores all stand or not
    ruled_moves : (stand : Bool)
        → Moved (step_key step) (adds stand (ordered_in m step)) (adds stand (filled_in m step)) (adds stand (withdrawn_in m step)) m
        (plain_event stand (step_updates m step) (refuses fault) m)
    unfolding plain_event plain_step refuses step_fault
    ruled_moves false = stays m r (step_key step)
    ruled_moves true = go (eqb fault 0) refl
      where
        go : (b : Bool) → eqb fault 0 ≡ b
            → Moved (step_key step) (cond (not (not b)) (ordered_in m step) 0) (cond (not (not b)) (filled_in m step) 0)
            (cond (not (not b)) (withdrawn_in m step) 0) m (plain_step (step_updates m step) (not b) m)
        go true e = step_moves step typed (or_else_zero (book_fault m step) _ (eqb-true fault 0 e)).0
        go false e = stays m r (step_key step)

    -- the same by whether the step was accepted
    event_moves : (accepted : Bool) → accepted ≡ not (refuses fault) → (stand : Bool)
        → Moved (step_key step) (cond (stand && accepted) (ordered_in m step) 0) (cond (stand && accepted) (filled_in m step) 0)
        (cond (stand && accepted) (withdrawn_in m step) 0) m (plain_event stand (step_updates m step) (refuses fault) m)
    event_moves accepted e stand =
        subst
        (λ (b : Bool). Moved (step_key step) (cond (stand && b) (ordered_in m step) 0) (cond (stand && b) (filled_in m step) 0)
        (cond (stand && b) (withdrawn_in m step) 0) m (plain_event stand (step_updates m step) (refuses fault) m))
        (sym e) (ruled_moves stand)

-- ---- what a step answered

-- an answer that is right is accepted exactly where the rules do not refuse it
accepted_by : (a : BookAnswer) (fault : ℕ) → refusal_number a ≡ fault → (fault ≡ 0 → is_accepted a ≡ true) → is_accepted a ≡ not (refuses fault)
unfolding refusal_number is_accepted refuses
accepted_by (taken values) fault e z = ap (λ (k : ℕ). not (not (eqb k 0))) e
accepted_by (already values) fault e z = ap (λ (k : ℕ). not (not (eqb k 0))) e
accepted_by (declined number) fault e z =
    by_cases (ℕ_discrete fault 0) (λ q. absurd (true-false (z q) refl)) (λ nz. sym (ap (λ (b : Bool). not (not b)) (ne_eqb fault 0 nz)))

answer_accepted : (values present : List ℕ) (call : Option Call) → is_accepted (answer_for values present call) ≡ true
unfolding answer_for is_accepted
answer_accepted values present none = refl
answer_accepted values present (some call) = refl

step_accepted : (l : ℕ) (w : World) (m : PlainMap) (step : Step) → StepCorrect l w m step
    → is_accepted (booked l w step).answer ≡ not (refuses (step_fault l w m step))
unfolding step_answer
step_accepted l w m step right =
    accepted_by _ _ right.refusal (λ z. ap is_accepted (right.answer z) ∙ answer_accepted _ _ (step_call m step))

typed_request : {l n : ℕ} {event : Event Step} → FitsBy (TypedStep l) n event → TypedStep l (request_of event)
typed_request (done_fits t) = t
typed_request (struck_fits t c) = t

-- ---- a list of events

-- quantities that are moved before those of a list that balances
moved_before : (key ordered filled withdrawn : ℕ) (m m' : PlainMap) → Moved key ordered filled withdrawn m m' → (ks : List ℕ) → Keys m ks
    → (later-ordered later-filled later-withdrawn end : ℕ)
    → ((js : List ℕ) → Keys m' js → later-ordered + open_total m' js ≡ later-filled + later-withdrawn + end)
    → ordered + later-ordered + open_total m ks ≡ filled + later-filled + (withdrawn + later-withdrawn) + end
moved_before key ordered filled withdrawn m m' v ks a later-ordered later-filled later-withdrawn end later =
    go (next_listed m m' key v.elsewhere ks a)
  where
    go : Listed m' → ordered + later-ordered + open_total m ks ≡ filled + later-filled + (withdrawn + later-withdrawn) + end
    go (listed js b) = omega (arith, v.balance, later js b, open_but_one m m' key v.elsewhere ks js a b)

moved_records : (key ordered filled withdrawn : ℕ) (m m' : PlainMap) → Records m → Moved key ordered filled withdrawn m m' → Records m'
moved_records key ordered filled withdrawn m m' r v k value e =
    by_cases (ℕ_discrete k key) (λ q. v.records value (ap m' (sym q) ∙ e)) (λ ne. r k value (sym (v.elsewhere k ne) ∙ e))

module _ (l n : ℕ) where
  pub records_at_end : (w : World) (m : PlainMap) → Records m → (events : List (Event Step)) → All (FitsBy (TypedStep l) n) events
      → Records (map_at_end l w m events)
  unfolding map_at_end
  records_at_end w m r [] none_left = r
  records_at_end w m r (event ∷ events) (one_more f fs) =
      records_at_end (world_after_step l w event) (map_after_step l w m event)
      (moved_records _ _ _ _ m _ r (event_moves l m r w (request_of event) (typed_request f) _ refl (is_whole (step_effects l) w event))) events fs

  -- a key that no step names keeps its value
  pub others_stay : (w : World) (m : PlainMap) → Records m → (events : List (Event Step)) → All (FitsBy (TypedStep l) n) events → (key : ℕ)
      → All (λ event. key ≡ step_key (request_of event) → ⊥) events → map_at_end l w m events key ≡ m key
  unfolding map_at_end
  others_stay w m r [] none_left key none_left = refl
  others_stay w m r (event ∷ events) (one_more f fs) key (one_more ne nes) =
      let v = event_moves l m r w (request_of event) (typed_request f) _ refl (is_whole (step_effects l) w event) in
      others_stay (world_after_step l w event) (map_after_step l w m event) (moved_records _ _ _ _ m _ r v) events fs key nes ∙ v.elsewhere key ne

  -- THE BALANCE from any map of book records, with what is open at the start, of steps that answer right
  pub balanced : (w : World) (m : PlainMap) → Records m → (events : List (Event Step)) → All (FitsBy (TypedStep l) n) events → StepsCorrect l w m events
      → (ks js : List ℕ) → Keys m ks → Keys (map_at_end l w m events) js
      → total_of ordered_in l w m events + open_total m ks
      ≡ total_of filled_in l w m events + total_of withdrawn_in l w m events + open_total (map_at_end l w m events) js
  unfolding map_at_end total_of is_counted
  balanced w m r [] none_left right ks js a b = omega (arith, open_same m ks js a b)
  balanced w m r (event ∷ events) (one_more f fs) right ks js a b =
      let v = event_moves l m r w (request_of event) (typed_request f) _ (step_accepted l w m (request_of event) right.1) (is_whole (step_effects l) w event) in
      moved_before _ _ _ _ m (map_after_step l w m event) v ks a _ _ _ _
      (λ is c. balanced (world_after_step l w event) (map_after_step l w m event) (moved_records _ _ _ _ m _ r v) events fs right.2 is js c b)

-- ---- every step answers right

module _ (l : ℕ) (Inv : World → PlainMap → Type 0) (laws : SetLaws l Inv) (n : ℕ) where
  steps_right : (w : World) (m : PlainMap) (events : List (Event Step)) → Inv w m → slots_in w.image ≡ n → All (FitsBy (TypedStep l) n) events
      → StepsCorrect l w m events
  steps_right w m events i e fits =
      throughout _ _ _ _ (λ v p. Inv v p × (slots_in v.image ≡ n)) (FitsBy (TypedStep l) n)
      (λ v p j. laws.recovers v p j.0)
      (λ v p j event f. step_right l Inv laws v p j.0 (request_of event) (typed_request f))
      (λ v p j event f.
      let here = subst (λ (k : ℕ). FitsBy (TypedStep l) k event) (sym j.1) f in
      (step_event_keeps l Inv laws v p j.0 event here, step_event_slots l Inv laws v p j.0 event here ∙ j.1))
      w m events (i, e) fits

-- ---- since an empty set

pub none_held : (m : PlainMap) → ((key : ℕ) → m key ≡ none) → Records m
none_held m empty key value e = absurd (some-none e (empty key))

-- CONSERVATION
pub conservation : (l : ℕ) → Layout l → Conservation l
unfolding open_total
conservation l layout image start z restart empty events fits = record {
  steps = right;
  recovers = (set_laws l layout).recovers _ _ (to_end l _ (set_laws l layout) (slots_in image) w (slots_map l image) events
      ((set_laws l layout).after-recovery image start z restart) same fits);
  orders = λ key value e. (records_at_end l (slots_in image) w (slots_map l image) none_there events fits key value e).order;
  balance = λ keys held. omega (arith, balanced l (slots_in image) w (slots_map l image) none_there events fits right [] keys no_keys held);
}
  where
    w : World
    w = restarted l image start

    same : slots_in w.image ≡ slots_in image
    same = (call_laws l layout).restart_slots image start

    right : StepsCorrect l w (slots_map l image) events
    right =
        steps_right l _ (set_laws l layout) (slots_in image) w (slots_map l image) events ((set_laws l layout).after-recovery image start z restart) same fits

    none_there : Records (slots_map l image)
    none_there = none_held (slots_map l image) empty

    no_keys : Keys (slots_map l image) []
    no_keys = record { once = tt; held = λ k i. absurd i; all = λ k h. nothing k h }
      where
        nothing : (k : ℕ) → Holds (slots_map l image) k → ⊥
        nothing k (holds value e) = some-none e (empty k)
