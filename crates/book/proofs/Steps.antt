-- EACH STEP IS RIGHT, by the plain map. Assumes nothing.
use mathlib.Core.Path.{◌≡◌, refl, ap, ap₂, ◌∙◌}
use mathlib.Core.Logic.{by_cases}
use mathlib.Core.Bool.{Bool, true, false, cond}
use mathlib.Core.Option.{Option, some, none}
use mathlib.Core.List.{List}
use Prim.Native.Nat.{ℕ, ◌^◌, ◌<◌}
use native.Mathlib.Omega.{arith}
use native.Mathlib.Decide.{ℕ_discrete}
use lib.Dec.{eqb}
use Rattle.prelude.specs.Answer.{gives, absent}
use Rattle.prelude.specs.Refusal.{refuse_if}
use Rattle.prelude.proofs.Choice.{pick_true, pick_false}
use Rattle.prelude.proofs.Refusals.{taken_leaves, refused_keeps}
use Rattle.interface.specs.Set.{World, Mode, Insert, Replace, Call, write, remove, call_result, write_result, remove_result, PlainMap, write_typed}
use Rattle.interface.specs.Set.{remove_typed}
use Rattle.interface.specs.Set.{is_held, plain_answer, holder, table_of, slots_in}
use Rattle.interface.specs.Laws.{SetLaws}
use Rattle.interface.proofs.LocatedSlot.{located}
use Rattle.book.specs.Orders.{order_bytes, sent, acknowledged, filled_by, open_of}
use Rattle.book.specs.Steps.{Step, new, acknowledge, fill, withdraw, new_at, new_result_by, already_at, acknowledge_at, acknowledge_result_by, fill_by, fill_at}
use Rattle.book.specs.Steps.{fill_result_by, withdraw_at, withdraw_result_by, quantity_fault, as_change, seek, booked, booked_by}
use Rattle.book.specs.Plain.{step_key, order_in, order_fault, book_fault, call_by, step_call, StepCorrect, TypedStep, new_typed, acknowledge_typed}
use Rattle.book.specs.Plain.{fill_typed, withdraw_typed}
use Rattle.book.specs.declared.Order.{Order}
use Rattle.book.proofs.defs.Ways.{sought_for}
use Rattle.book.proofs.OrderBytes.{order-bytes}
use Rattle.book.proofs.Lookups.{sought}
use Rattle.book.proofs.StepWays.{declines_right, repeats_right, calls_right}

-- a key that holds an order is held
order_held : (held : Option (List ℕ)) (o : Order) → order_in held ≡ some o → is_held held ≡ true
unfolding order_in is_held
order_held none o e = absurd (let z : ◌≡◌ {A = ℕ} 0 1 = cc in omega arith)
order_held (some value) o e = refl

-- the call of a step that the book's rules do not refuse
step-call : (m : PlainMap) (step : Step) (held : Option Order) (call : Option Call) → book_fault m step ≡ 0
    → order_in (m (step_key step)) ≡ held → call_by held step ≡ call → step_call m step ≡ call
unfolding step_call
step-call m step held call z e d = taken_leaves _ _ (book_fault m step) z ∙ ap (λ (h : Option Order). call_by h step) e ∙ d

module _ (l : ℕ) (Inv : World → PlainMap → Type 0) (laws : SetLaws l Inv) (w : World) (m : PlainMap) (i : Inv w m) (key : ℕ)
    (small : key < (2 ^ 64) ^ l) where
  -- ---- the calls

  write_right : (mode : Mode) (step : Step) (o : Order) → book_fault m step ≡ 0 → step_call m step ≡ some (write mode key (order_bytes o))
      → booked l w step ≡ as_change (write_result l w.image w.index mode key (order_bytes o)) → StepCorrect l w m step
  unfolding call_result plain_answer
  write_right mode step o z e d =
      calls_right l w m step (write mode key (order_bytes o)) _
      (record { fault = z; comes = e; answer = refl; change = refl; result = d })
      (laws.answers w m i _ (write_typed small (order-bytes o)))

  remove_right : (step : Step) → book_fault m step ≡ 0 → is_held (m key) ≡ true → step_call m step ≡ some (remove key)
      → booked l w step ≡ as_change (remove_result l w.image w.index key) → StepCorrect l w m step
  unfolding call_result plain_answer
  remove_right step z held e d =
      calls_right l w m step (remove key) _
      (record { fault = z; comes = e; answer = pick_true _ _ _ held; change = refl; result = d })
      (laws.answers w m i _ (remove_typed small))

  -- ---- new

  new_right : (quantity : ℕ) → StepCorrect l w m (new key quantity)
  unfolding booked_by new_result_by new_at book_fault order_fault order_in call_by is_held refuse_if
  new_right quantity = go (m key) refl (eqb quantity 0) refl
    where
      at : (held : Option (List ℕ)) → m key ≡ held → booked l w (new key quantity) ≡
          new_at false l w.image w.index key quantity
          (cond (is_held held) (gives (holder (table_of l w.image) (slots_in w.image) key)) absent)
      at held e =
          ap (new_at false l w.image w.index key quantity)
          (located l Inv laws w m i key
          ∙ ap (λ (h : Option (List ℕ)). cond (is_held h) (gives (holder (table_of l w.image) (slots_in w.image) key)) absent) e)

      fault : (held : Option (List ℕ)) → m key ≡ held → (b : Bool) → eqb quantity 0 ≡ b
          → book_fault m (new key quantity) ≡ refuse_if (is_held held) 17 (refuse_if b 19 0)
      fault held e b d = ap₂ (λ (h : Option (List ℕ)) (t : Bool). refuse_if (is_held h) 17 (refuse_if t 19 0)) e d

      go : (held : Option (List ℕ)) → m key ≡ held → (b : Bool) → eqb quantity 0 ≡ b → StepCorrect l w m (new key quantity)
      go (some value) e b d =
          declines_right l w m _ 17 (record { fault = fault _ e b d; some = λ z. omega arith; result = at _ e })
      go none e true d =
          declines_right l w m _ 19
          (record { fault = fault _ e true d; some = λ z. omega arith; result = at _ e ∙ pick_true _ _ _ d })
      go none e false d =
          write_right Insert (new key quantity) (sent quantity) (fault _ e false d)
          (step-call m _ none _ (fault _ e false d) (ap order_in e) refl)
          (at _ e ∙ pick_false _ _ _ d)

  -- ---- the steps of an order that is held

  -- the order that is there
  order_at : (held : Option Order) → order_in (m key) ≡ held → seek l w.image w.index.heads w.index.next key ≡ sought_for held
  order_at held e = sought l Inv laws w m i key ∙ ap sought_for e

  acknowledge_right : StepCorrect l w m (acknowledge key)
  unfolding booked_by acknowledge_result_by acknowledge_at book_fault order_fault call_by sought_for already_at
  acknowledge_right = go (order_in (m key)) refl
    where
      at : (held : Option Order) → order_in (m key) ≡ held → booked l w (acknowledge key) ≡
          acknowledge_at false l w.image w.index key (sought_for held)
      at held e = ap (acknowledge_at false l w.image w.index key) (order_at held e)

      fault : (held : Option Order) → order_in (m key) ≡ held → book_fault m (acknowledge key) ≡ order_fault held (acknowledge key)
      fault held e = ap (λ (h : Option Order). order_fault h (acknowledge key)) e

      of : (o : Order) → order_in (m key) ≡ some o → (b : Bool) → eqb o.state 2 ≡ b → StepCorrect l w m (acknowledge key)
      of o e true d =
          repeats_right l w m _
          (record {
            fault = fault _ e;
            comes = step-call m _ (some o) _ (fault _ e) e (pick_true _ _ _ d);
            result = at _ e ∙ pick_true _ _ _ d
                ∙ ap (already_at w.index) (located l Inv laws w m i key ∙ pick_true _ _ _ (order_held (m key) o e));
          })
      of o e false d =
          write_right Replace (acknowledge key) (acknowledged o) (fault _ e)
          (step-call m _ (some o) _ (fault _ e) e (pick_false _ _ _ d))
          (at _ e ∙ pick_false _ _ _ d)

      go : (held : Option Order) → order_in (m key) ≡ held → StepCorrect l w m (acknowledge key)
      go none e = declines_right l w m _ 18 (record { fault = fault _ e; some = λ z. omega arith; result = at _ e })
      go (some o) e = of o e (eqb o.state 2) refl

  fill_right : (quantity : ℕ) → StepCorrect l w m (fill key quantity)
  unfolding booked_by fill_result_by fill_at fill_by book_fault order_fault call_by sought_for
  fill_right quantity = go (order_in (m key)) refl
    where
      at : (held : Option Order) → order_in (m key) ≡ held → booked l w (fill key quantity) ≡
          fill_at false l w.image w.index key quantity (sought_for held)
      at held e = ap (fill_at false l w.image w.index key quantity) (order_at held e)

      fault : (held : Option Order) → order_in (m key) ≡ held → book_fault m (fill key quantity) ≡ order_fault held (fill key quantity)
      fault held e = ap (λ (h : Option Order). order_fault h (fill key quantity)) e

      of : (o : Order) → order_in (m key) ≡ some o → quantity_fault quantity (open_of o) ≡ 0 → (b : Bool) → eqb quantity (open_of o) ≡ b
          → StepCorrect l w m (fill key quantity)
      of o e z true d =
          remove_right (fill key quantity) (fault _ e ∙ z) (order_held (m key) o e)
          (step-call m _ (some o) _ (fault _ e ∙ z) e (pick_true _ _ _ d))
          (at _ e ∙ taken_leaves _ _ _ z ∙ pick_true _ _ _ d)
      of o e z false d =
          write_right Replace (fill key quantity) (filled_by quantity o) (fault _ e ∙ z)
          (step-call m _ (some o) _ (fault _ e ∙ z) e (pick_false _ _ _ d))
          (at _ e ∙ taken_leaves _ _ _ z ∙ pick_false _ _ _ d)

      go : (held : Option Order) → order_in (m key) ≡ held → StepCorrect l w m (fill key quantity)
      go none e = declines_right l w m _ 18 (record { fault = fault _ e; some = λ z. omega arith; result = at _ e })
      go (some o) e =
          by_cases (ℕ_discrete (quantity_fault quantity (open_of o)) 0)
          (λ z. of o e z (eqb quantity (open_of o)) refl)
          (λ nz. declines_right l w m _ (quantity_fault quantity (open_of o))
          (record { fault = fault _ e; some = nz; result = at _ e ∙ refused_keeps _ _ _ nz }))

  withdraw_right : StepCorrect l w m (withdraw key)
  unfolding booked_by withdraw_result_by withdraw_at book_fault order_fault call_by sought_for
  withdraw_right = go (order_in (m key)) refl
    where
      at : (held : Option Order) → order_in (m key) ≡ held → booked l w (withdraw key) ≡
          withdraw_at false l w.image w.index key (sought_for held)
      at held e = ap (withdraw_at false l w.image w.index key) (order_at held e)

      fault : (held : Option Order) → order_in (m key) ≡ held → book_fault m (withdraw key) ≡ order_fault held (withdraw key)
      fault held e = ap (λ (h : Option Order). order_fault h (withdraw key)) e

      go : (held : Option Order) → order_in (m key) ≡ held → StepCorrect l w m (withdraw key)
      go none e = declines_right l w m _ 18 (record { fault = fault _ e; some = λ z. omega arith; result = at _ e })
      go (some o) e =
          remove_right (withdraw key) (fault _ e) (order_held (m key) o e) (step-call m _ (some o) _ (fault _ e) e refl) (at _ e)

-- EACH STEP IS RIGHT
pub step_right : (l : ℕ) (Inv : World → PlainMap → Type 0) → SetLaws l Inv → (w : World) (m : PlainMap) → Inv w m → (step : Step)
    → TypedStep l step → StepCorrect l w m step
step_right l Inv laws w m i (new key quantity) (new_typed k q) = new_right l Inv laws w m i key k quantity
step_right l Inv laws w m i (acknowledge key) (acknowledge_typed k) = acknowledge_right l Inv laws w m i key k
step_right l Inv laws w m i (fill key quantity) (fill_typed k q) = fill_right l Inv laws w m i key k quantity
step_right l Inv laws w m i (withdraw key) (withdraw_typed k) = withdraw_right l Inv laws w m i key k
