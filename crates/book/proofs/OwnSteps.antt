-- With an index that is the image's own the steps for its owner are the steps for any index. Assumes nothing.
use mathlib.Core.Path.{◌≡◌, refl, ap, ◌∙◌}
use mathlib.Core.Bool.{Bool, true, false, cond}
use mathlib.Core.List.{List}
use Prim.Native.Nat.{ℕ}
use lib.Dec.{eqb}
use Rattle.prelude.specs.Answer.{Answer, gives, absent, refused}
use Rattle.prelude.specs.Refusal.{unless_refused}
use Rattle.interface.specs.Set.{Mode, Insert, Replace, World, PlainMap, Call, write, remove, CallResult, call_result, call_result_by, write_result}
use Rattle.interface.specs.Set.{write_result_by}
use Rattle.interface.specs.Set.{remove_result, remove_result_by, locate_result}
use Rattle.interface.specs.Laws.{SetLaws}
use Rattle.book.specs.Orders.{order_bytes, open_of, sent, acknowledged, filled_by}
use Rattle.book.specs.Steps.{Step, new, acknowledge, fill, withdraw, BookResult, declined, idle, change_answers, as_change, Sought, order, none_there}
use Rattle.book.specs.Steps.{seek, new_at, new_result_by, already_at, acknowledge_at, acknowledge_result_by, quantity_fault, fill_by, fill_at, fill_result_by}
use Rattle.book.specs.Steps.{withdraw_at, withdraw_result_by, booked, booked_by}

module _ (l : ℕ) (Inv : World → PlainMap → Type 0) (laws : SetLaws l Inv) (w : World) (m : PlainMap) (i : Inv w m) where
  by_called : CallResult → BookResult
  by_called c = record { answer = change_answers c.answer; stores = c.stores; index = c.index }

  own_write : (mode : Mode) (key : ℕ) (value : List ℕ)
      → as_change (write_result_by true l w.image w.index mode key value)
      ≡ as_change (write_result l w.image w.index mode key value)
  unfolding call_result_by call_result as_change by_called
  own_write mode key value = ap by_called (laws.either_call w m i true (write mode key value))

  own_remove : (key : ℕ)
      → as_change (remove_result_by true l w.image w.index key)
      ≡ as_change (remove_result l w.image w.index key)
  unfolding call_result_by call_result as_change by_called
  own_remove key = ap by_called (laws.either_call w m i true (remove key))

  own_new : (key quantity : ℕ) (a : Answer)
      → new_at true l w.image w.index key quantity a ≡ new_at false l w.image w.index key quantity a
  unfolding new_at
  own_new key quantity (gives values) = refl
  own_new key quantity absent = ap (cond (eqb quantity 0) (idle (declined 19) w.index)) (own_write Insert key (order_bytes (sent quantity)))
  own_new key quantity (refused number) = refl

  own_acknowledge : (key : ℕ) (sought : Sought)
      → acknowledge_at true l w.image w.index key sought ≡ acknowledge_at false l w.image w.index key sought
  unfolding acknowledge_at
  own_acknowledge key (order o) =
      ap (cond (eqb o.state 2) (already_at w.index (locate_result l w.image w.index.heads w.index.next key).answer))
      (own_write Replace key (order_bytes (acknowledged o)))
  own_acknowledge key (none_there number) = refl

  own_fill_by : (key quantity : ℕ) (b : Bool) (value : List ℕ)
      → cond b (as_change (remove_result_by true l w.image w.index key))
      (as_change (write_result_by true l w.image w.index Replace key value))
      ≡ cond b (as_change (remove_result l w.image w.index key))
      (as_change (write_result l w.image w.index Replace key value))
  own_fill_by key quantity true value = own_remove key
  own_fill_by key quantity false value = own_write Replace key value

  own_fill : (key quantity : ℕ) (sought : Sought)
      → fill_at true l w.image w.index key quantity sought ≡ fill_at false l w.image w.index key quantity sought
  unfolding fill_at fill_by
  own_fill key quantity (order o) =
      ap (λ (r : BookResult). unless_refused (quantity_fault quantity (open_of o)) r (idle (declined (quantity_fault quantity (open_of o))) w.index))
      (own_fill_by key quantity (eqb quantity (open_of o)) (order_bytes (filled_by quantity o)))
  own_fill key quantity (none_there number) = refl

  own_withdraw : (key : ℕ) (sought : Sought)
      → withdraw_at true l w.image w.index key sought ≡ withdraw_at false l w.image w.index key sought
  unfolding withdraw_at
  own_withdraw key (order o) = own_remove key
  own_withdraw key (none_there number) = refl

  -- THE STEPS FOR THE OWNER ARE THE STEPS
  pub either_booked : (own : Bool) (step : Step) → booked_by own l w step ≡ booked l w step
  unfolding booked_by new_result_by acknowledge_result_by fill_result_by withdraw_result_by
  either_booked false step = refl
  either_booked true (new key quantity) = own_new key quantity (locate_result l w.image w.index.heads w.index.next key).answer
  either_booked true (acknowledge key) = own_acknowledge key (seek l w.image w.index.heads w.index.next key)
  either_booked true (fill key quantity) = own_fill key quantity (seek l w.image w.index.heads w.index.next key)
  either_booked true (withdraw key) = own_withdraw key (seek l w.image w.index.heads w.index.next key)
