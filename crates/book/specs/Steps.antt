-- The book's steps by the set's calls. Document 02, A.1: "Its steps are new, acknowledge, fill and withdraw." A step is
-- refused with 1, 2, 3, 4 or 11 (chain) as the set refuses it, then with 17, 18 and 19, "in that order", and then as
-- the set's call that it comes to.
use Rattle.std.specs.Prelude.{Bool, false, cond, List, [], ◌∷◌, ℕ, eqb, ltb, take, replicate}
use Rattle.prelude.specs.Answer.{Answer, gives, absent, refused}
use Rattle.prelude.specs.Refusal.{refuse_if, unless_refused}
use Rattle.interface.specs.Set.{Index, index_of, Store, zipped, stores_after, Insert, Replace, CallResult, ReadOnlyResult, write_result_by, remove_result_by}
use Rattle.interface.specs.Set.{get_result, locate_result, limit, World}
use Rattle.book.specs.Orders.{order_bytes, order_of, is_order, open_of, sent, acknowledged, filled_by}
use Rattle.book.specs.declared.Order.{Order}
use Rattle.book.specs.declared.BookOutcome.{BookOutcome}
use Rattle.book.specs.declared.BookOutcome.TheVariants.{Stored, Already, Refused}
use Rattle.book.specs.declared.BookChange.{BookChange}

-- a step: which one, the order's key, and the quantity of a new order or of a fill
pub data Step : Type 0 where
  new : (key quantity : ℕ) → Step
  acknowledge : (key : ℕ) → Step
  fill : (key quantity : ℕ) → Step
  withdraw : (key : ℕ) → Step

-- ---- what a step answers and leaves

-- done, with the slot taken and the version; acknowledged before, with the order's slot and version; or the number of a
-- refusal
pub data BookAnswer : Type 0 where
  taken : (values : List ℕ) → BookAnswer
  already : (values : List ℕ) → BookAnswer
  declined : (number : ℕ) → BookAnswer

unfoldable pub book_says : BookOutcome → BookAnswer
book_says (Stored slot version) = taken (slot ∷ version ∷ [])
book_says (Already slot version) = already (slot ∷ version ∷ [])
book_says (Refused number) = declined number

-- the answer, the stores handed out and the index at exit
pub record BookResult : Type 0 where
  pub answer : BookAnswer
  pub stores : List Store
  pub index : Index

-- what a step with this answer left; at and value are the stores lent to it
abbrev pub book_end : BookChange → (at value heads next : List ℕ) → BookResult
book_end r at value heads next =
    record { answer = book_says r.outcome; stores = zipped at value; index = index_of heads next r.state }

-- what a step with this result leaves, lent these stores
unfoldable pub book_buffers_after : (lent : List Store) → BookResult → BookResult
book_buffers_after lent r = record { answer = r.answer; stores = stores_after r.stores lent; index = r.index }

-- a step that stores nothing changes nothing
unfoldable pub idle : BookAnswer → Index → BookResult
idle answer i = record { answer = answer; stores = []; index = i }

-- a step that comes to a call of the set leaves what the call leaves; the call of a key that is not held, which no step
-- makes, has 18
unfoldable pub change_answers : Answer → BookAnswer
change_answers (gives values) = taken values
change_answers absent = declined 18
change_answers (refused number) = declined number

unfoldable pub as_change : CallResult → BookResult
as_change r = record { answer = change_answers r.answer; stores = r.stores; index = r.index }

-- ---- the order of a key

-- the order, or the number of a refusal
pub data Sought : Type 0 where
  order : Order → Sought
  none_there : (number : ℕ) → Sought

-- "18 when another step's key is not held or holds no book record"; so is a length byte over the limit, for which get
-- has 23
unfoldable pub sought_in : (out : List ℕ) → Answer → Sought
sought_in out (gives []) = none_there 18
sought_in out (gives (size ∷ values)) = cond (is_order (take size out)) (order (order_of (take size out))) (none_there 18)
sought_in out absent = none_there 18
sought_in out (refused number) = none_there (cond (eqb number 23) 18 number)

unfoldable pub sought_by : ReadOnlyResult → Sought
sought_by r = sought_in r.out r.answer

-- by a get with room for any value
unfoldable pub seek : (l : ℕ) → (image heads next : List ℕ) → (key : ℕ) → Sought
seek l image heads next key = sought_by (get_result l image heads next key (replicate (limit l) 0))

-- ---- new: "17 when a new order's key is held", "19 when a new quantity is zero"

unfoldable pub new_at : (own : Bool) → (l : ℕ) → (image : List ℕ) → Index → (key quantity : ℕ) → Answer → BookResult
new_at own l image i key quantity (gives values) = idle (declined 17) i
new_at own l image i key quantity absent =
    cond (eqb quantity 0) (idle (declined 19) i)
    (as_change (write_result_by own l image i Insert key (order_bytes (sent quantity))))
new_at own l image i key quantity (refused number) = idle (declined number) i

-- of a step of either family: `own` tells whether it is for the owner of its index
unfoldable pub new_result_by : (own : Bool) → (l : ℕ) → (image : List ℕ) → Index → (key quantity : ℕ) → BookResult
new_result_by own l image i key quantity =
    new_at own l image i key quantity (locate_result l image i.heads i.next key).answer

abbrev pub new_result : (l : ℕ) → (image : List ℕ) → Index → (key quantity : ℕ) → BookResult
new_result l image i key quantity = new_result_by false l image i key quantity

-- ---- acknowledge

-- "A second acknowledge stores nothing and, before any later check, answers the order's present slot and its line A's
-- version"

unfoldable pub already_at : Index → Answer → BookResult
already_at i (gives values) = idle (already values) i
already_at i absent = idle (declined 18) i
already_at i (refused number) = idle (declined number) i

unfoldable pub acknowledge_at : (own : Bool) → (l : ℕ) → (image : List ℕ) → Index → (key : ℕ) → Sought → BookResult
acknowledge_at own l image i key (order o) =
    cond (eqb o.state 2) (already_at i (locate_result l image i.heads i.next key).answer)
    (as_change (write_result_by own l image i Replace key (order_bytes (acknowledged o))))
acknowledge_at own l image i key (none_there number) = idle (declined number) i

unfoldable pub acknowledge_result_by : (own : Bool) → (l : ℕ) → (image : List ℕ) → Index → (key : ℕ) → BookResult
acknowledge_result_by own l image i key = acknowledge_at own l image i key (seek l image i.heads i.next key)

abbrev pub acknowledge_result : (l : ℕ) → (image : List ℕ) → Index → (key : ℕ) → BookResult
acknowledge_result l image i key = acknowledge_result_by false l image i key

-- ---- fill: "19 when .. a fill is zero or more than is open"; "A .. fully filled order is removed"

unfoldable pub quantity_fault : (quantity left : ℕ) → ℕ
quantity_fault quantity left = refuse_if (eqb quantity 0) 19 (refuse_if (ltb left quantity) 19 0)

unfoldable pub fill_by : (own : Bool) → (l : ℕ) → (image : List ℕ) → Index → (key quantity : ℕ) → Order → BookResult
fill_by own l image i key quantity o =
    cond (eqb quantity (open_of o)) (as_change (remove_result_by own l image i key))
    (as_change (write_result_by own l image i Replace key (order_bytes (filled_by quantity o))))

unfoldable pub fill_at : (own : Bool) → (l : ℕ) → (image : List ℕ) → Index → (key quantity : ℕ) → Sought → BookResult
fill_at own l image i key quantity (order o) =
    unless_refused (quantity_fault quantity (open_of o)) (fill_by own l image i key quantity o)
    (idle (declined (quantity_fault quantity (open_of o))) i)
fill_at own l image i key quantity (none_there number) = idle (declined number) i

unfoldable pub fill_result_by : (own : Bool) → (l : ℕ) → (image : List ℕ) → Index → (key quantity : ℕ) → BookResult
fill_result_by own l image i key quantity = fill_at own l image i key quantity (seek l image i.heads i.next key)

abbrev pub fill_result : (l : ℕ) → (image : List ℕ) → Index → (key quantity : ℕ) → BookResult
fill_result l image i key quantity = fill_result_by false l image i key quantity

-- ---- withdraw: all that is open. "A withdrawn .. order is removed"

unfoldable pub withdraw_at : (own : Bool) → (l : ℕ) → (image : List ℕ) → Index → (key : ℕ) → Sought → BookResult
withdraw_at own l image i key (order o) = as_change (remove_result_by own l image i key)
withdraw_at own l image i key (none_there number) = idle (declined number) i

unfoldable pub withdraw_result_by : (own : Bool) → (l : ℕ) → (image : List ℕ) → Index → (key : ℕ) → BookResult
withdraw_result_by own l image i key = withdraw_at own l image i key (seek l image i.heads i.next key)

abbrev pub withdraw_result : (l : ℕ) → (image : List ℕ) → Index → (key : ℕ) → BookResult
withdraw_result l image i key = withdraw_result_by false l image i key

-- ---- a step in a world

unfoldable pub booked_by : (own : Bool) → (l : ℕ) → World → Step → BookResult
booked_by own l w (new key quantity) = new_result_by own l w.image w.index key quantity
booked_by own l w (acknowledge key) = acknowledge_result_by own l w.image w.index key
booked_by own l w (fill key quantity) = fill_result_by own l w.image w.index key quantity
booked_by own l w (withdraw key) = withdraw_result_by own l w.image w.index key

abbrev pub booked : (l : ℕ) → World → Step → BookResult
booked l w step = booked_by false l w step
