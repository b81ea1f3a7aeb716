-- The ways that a step goes.
use mathlib.Core.Path.{◌≡◌}
use mathlib.Core.Option.{Option, some, none}
use mathlib.Core.List.{[], ◌∷◌}
use Prim.Native.Nat.{ℕ}
use Rattle.prelude.specs.Answer.{gives}
use Rattle.interface.specs.Set.{World, Call, call_result, PlainMap, expected_answer, holder, next_version, table_of, slots_in, CallResult}
use Rattle.book.specs.Steps.{Step, already, declined, idle, as_change, Sought, order, none_there, booked}
use Rattle.book.specs.Plain.{book_fault, step_call, step_key}
use Rattle.book.specs.declared.Order.{Order}

-- what a seek finds where this order is held
unfoldable pub sought_for : Option Order → Sought
sought_for none = none_there 18
sought_for (some o) = order o

-- the book's rules refuse the step with this number
pub record Declines (l : ℕ) (w : World) (m : PlainMap) (step : Step) (number : ℕ) : Type 0 where
  pub fault : book_fault m step ≡ number
  pub some : number ≡ 0 → ⊥
  pub result : booked l w step ≡ idle (declined number) w.index

-- the step comes to no call
pub record Repeats (l : ℕ) (w : World) (m : PlainMap) (step : Step) : Type 0 where
  pub fault : book_fault m step ≡ 0
  pub comes : step_call m step ≡ none
  pub result :
      booked l w step ≡
      idle (already (holder (table_of l w.image) (slots_in w.image) (step_key step))) w.index

-- the step comes to this call, which leaves c and which the plain map does not answer with absent
pub record Calls (l : ℕ) (w : World) (m : PlainMap) (step : Step) (call : Call) (c : CallResult) : Type 0 where
  pub fault : book_fault m step ≡ 0
  pub comes : step_call m step ≡ some call
  pub answer : expected_answer l w m call ≡ gives (w.index.state.first ∷ next_version (table_of l w.image) (slots_in w.image) ∷ [])
  pub change : call_result l w call ≡ c
  pub result : booked l w step ≡ as_change c
