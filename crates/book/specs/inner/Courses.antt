-- What a step is to do, by what its get or its locate answers: a step reads first, and then makes at most one call.
use Rattle.std.specs.Prelude.{Bool, cond, ◌&&◌, List, [], ◌∷◌, ℕ, eqb, ltb}
use Rattle.prelude.specs.Answer.{Answer, gives, absent, refused}
use Rattle.prelude.specs.Refusal.{unless_refused}
use Rattle.interface.specs.Set.{State, Mode, Insert, Replace, write_result_by, remove_result_by, Index}
use Rattle.book.specs.Orders.{order_bytes, is_state, open_of, sent, acknowledged, filled_by}
use Rattle.book.specs.Steps.{BookAnswer, already, declined, BookResult, idle, as_change, Sought, order, none_there, quantity_fault}
use Rattle.book.specs.declared.Order.{Order}
use Rattle.book.specs.declared.Seek.{Seek}
use Rattle.book.specs.declared.Seek.TheVariants.{Found, Missing}
use Rattle.book.specs.declared.Plan.{Plan}
use Rattle.book.specs.declared.Plan.TheVariants.{Write, Remove, Already, Refused}

-- ---- the order of a key

unfoldable pub seek_says : Seek → Sought
seek_says (Found o) = order o
seek_says (Missing number) = none_there number

-- the order with these three words, if they are those of a book record
unfoldable pub sought_with : (state ordered filled : ℕ) → Sought
sought_with state ordered filled =
    cond (is_state state && ltb filled ordered) (order (record { state = state; ordered = ordered; filled = filled })) (none_there 18)

-- the number of a get's refusal, as a step says it
unfoldable pub sought_number : (number : ℕ) → ℕ
sought_number number = cond (eqb number 23) 18 number

-- ---- what a step is to do

-- an insert of this order or a replace by it, a remove, or this answer with no change
pub data Course : Type 0 where
  writes : Mode → Order → Course
  removes : Course
  answers : BookAnswer → Course

unfoldable pub plan_says : Plan → Course
plan_says (Write mode o) = writes mode o
plan_says Remove = removes
plan_says (Already slot version) = answers (already (slot ∷ version ∷ []))
plan_says (Refused number) = answers (declined number)

-- what it comes to
unfoldable pub course_result : (own : Bool) → (l : ℕ) → (image : List ℕ) → Index → (key : ℕ) → Course → BookResult
course_result own l image i key (writes mode o) = as_change (write_result_by own l image i mode key (order_bytes o))
course_result own l image i key removes = as_change (remove_result_by own l image i key)
course_result own l image i key (answers answer) = idle answer i

-- ---- each step's, by what locate answers or what a seek finds

unfoldable pub new_course : (quantity : ℕ) → Answer → Course
new_course quantity (gives values) = answers (declined 17)
new_course quantity absent = cond (eqb quantity 0) (answers (declined 19)) (writes Insert (sent quantity))
new_course quantity (refused number) = answers (declined number)

unfoldable pub already_course : Answer → Course
already_course (gives values) = answers (already values)
already_course absent = answers (declined 18)
already_course (refused number) = answers (declined number)

-- `located` is locate's answer for the key
unfoldable pub acknowledge_course : (located : Answer) → Sought → Course
acknowledge_course located (order o) = cond (eqb o.state 2) (already_course located) (writes Replace (acknowledged o))
acknowledge_course located (none_there number) = answers (declined number)

unfoldable pub fill_order : (quantity : ℕ) → Order → Course
fill_order quantity o =
    unless_refused (quantity_fault quantity (open_of o)) (cond (eqb quantity (open_of o)) removes (writes Replace (filled_by quantity o)))
    (answers (declined (quantity_fault quantity (open_of o))))

unfoldable pub fill_course : (quantity : ℕ) → Sought → Course
fill_course quantity (order o) = fill_order quantity o
fill_course quantity (none_there number) = answers (declined number)

unfoldable pub withdraw_course : Sought → Course
withdraw_course (order o) = removes
withdraw_course (none_there number) = answers (declined number)
