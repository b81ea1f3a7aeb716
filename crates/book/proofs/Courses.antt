-- What a step is to do comes to the step's result. Assumes nothing.
use mathlib.Core.Path.{◌≡◌, refl, sym, ap, ◌∙◌}
use mathlib.Core.Bool.{Bool, true, false, cond}
use mathlib.Core.List.{List}
use Prim.Native.Nat.{ℕ, zero, suc}
use lib.Dec.{eqb}
use borrow.Author.Tests.{eq-eqb, ne_eqb}
use Rattle.prelude.proofs.Choice.{pick_true, pick_false}
use Rattle.prelude.specs.Answer.{Answer, gives, absent, refused}
use Rattle.prelude.specs.Refusal.{unless_refused}
use Rattle.interface.specs.Set.{State, Store, Mode, Replace, buffers_after, write_result_by, remove_result_by, locate_result, CallResult, index_of, Index}
use Rattle.book.specs.Orders.{order_bytes, open_of, acknowledged}
use Rattle.book.specs.Steps.{BookAnswer, BookResult, book_buffers_after, idle, change_answers, as_change, Sought, order, none_there, seek, new_at}
use Rattle.book.specs.Steps.{new_result_by, already_at, acknowledge_at, acknowledge_result_by, quantity_fault, fill_by, fill_at, fill_result_by, withdraw_at}
use Rattle.book.specs.Steps.{withdraw_result_by}
use Rattle.book.specs.inner.Courses.{Course, writes, removes, answers, course_result, new_course, already_course, acknowledge_course, fill_order, fill_course}
use Rattle.book.specs.inner.Courses.{withdraw_course}
use Rattle.book.specs.declared.Order.{Order}

-- a function of a choice
module _ {A B : Type 0} (f : A → B) where
  of_cond : (t : Bool) (x y : A) (z : B) → f x ≡ z → f (cond t x y) ≡ cond t z (f y)
  of_cond true x y z e = e
  of_cond false x y z e = refl

  of_unless : (k : ℕ) (x y : A) (z : B) → f x ≡ z → f (unless_refused k x y) ≡ unless_refused k z (f y)
  unfolding unless_refused
  of_unless zero x y z e = e
  of_unless (suc k) x y z e = refl

-- ---- an acknowledge, by the order's state; answer is locate's answer as the code has it

module _ (sought : Sought) (located : Answer) (o : Order) (e : order o ≡ sought) where
  pub acknowledge_again : o.state ≡ 2 → (answer : Answer) → answer ≡ located → already_course answer ≡ acknowledge_course located sought
  unfolding acknowledge_course
  acknowledge_again q answer h =
      ap already_course h ∙ sym (pick_true (eqb o.state 2) _ _ (eq-eqb o.state 2 q)) ∙ ap (acknowledge_course located) e

  pub acknowledge_first : (o.state ≡ 2 → ⊥) → writes Replace (acknowledged o) ≡ acknowledge_course located sought
  unfolding acknowledge_course
  acknowledge_first ne = sym (pick_false (eqb o.state 2) _ _ (ne_eqb o.state 2 ne)) ∙ ap (acknowledge_course located) e

-- ---- what a call leaves, with the step's answer in place of the call's

pub answered : (c : CallResult) (answer : BookAnswer) → answer ≡ change_answers c.answer
    → record { answer = answer; stores = c.stores; index = c.index } ≡ as_change c
unfolding as_change
answered c answer e =
    ap (λ (a : BookAnswer). record { answer = a; stores = c.stores; index = c.index }) e

change-left : (lent : List Store) (c : CallResult) → as_change (buffers_after lent c) ≡ book_buffers_after lent (as_change c)
unfolding as_change buffers_after book_buffers_after
change-left lent c = refl

-- ---- a course comes to the step's result

module _ (own : Bool) (l : ℕ) (image : List ℕ) (i : Index) (key : ℕ) where
  result : Course → BookResult
  result = course_result own l image i key

  new-at : (quantity : ℕ) (answer : Answer) → result (new_course quantity answer) ≡ new_at own l image i key quantity answer
  unfolding result course_result new_course new_at
  new-at quantity (gives values) = refl
  new-at quantity absent = of_cond result (eqb quantity 0) _ _ _ refl
  new-at quantity (refused number) = refl

  already-at : (answer : Answer) → result (already_course answer) ≡ already_at i answer
  unfolding result course_result already_course already_at
  already-at (gives values) = refl
  already-at absent = refl
  already-at (refused number) = refl

  acknowledge-at : (sought : Sought)
      → result (acknowledge_course (locate_result l image i.heads i.next key).answer sought) ≡ acknowledge_at own l image i key sought
  unfolding result course_result acknowledge_course acknowledge_at
  acknowledge-at (order o) = of_cond result (eqb o.state 2) _ _ _ (already-at (locate_result l image i.heads i.next key).answer)
  acknowledge-at (none_there number) = refl

  fill-at : (quantity : ℕ) (sought : Sought) → result (fill_course quantity sought) ≡ fill_at own l image i key quantity sought
  unfolding result course_result fill_course fill_order fill_at fill_by
  fill-at quantity (order o) =
      of_unless result (quantity_fault quantity (open_of o)) _ _ _ (of_cond result (eqb quantity (open_of o)) _ _ _ refl)
  fill-at quantity (none_there number) = refl

  withdraw-at : (sought : Sought) → result (withdraw_course sought) ≡ withdraw_at own l image i key sought
  unfolding result course_result withdraw_course withdraw_at
  withdraw-at (order o) = refl
  withdraw-at (none_there number) = refl

  -- ---- what a course comes to: left is what the step leaves, lent these stores, and c what its call leaves

  module _ (lent : List Store) (left : BookResult) (course : Course) where
    comes : (r : BookResult) → left ≡ book_buffers_after lent r → r ≡ course_result own l image i key course
        → left ≡ book_buffers_after lent (course_result own l image i key course)
    comes r e q = e ∙ ap (book_buffers_after lent) q

    pub course_write : (mode : Mode) (o : Order) → course ≡ writes mode o → (value : List ℕ) → value ≡ order_bytes o → (c : CallResult)
        → c ≡ buffers_after lent (write_result_by own l image i mode key value) → left ≡ as_change c
        → left ≡ book_buffers_after lent (course_result own l image i key course)
    unfolding course_result
    course_write mode o q value v c p e =
        comes _ (e ∙ ap as_change p ∙ change-left lent _)
        (ap (λ (bytes : List ℕ). as_change (write_result_by own l image i mode key bytes)) v ∙ sym (ap (course_result own l image i key) q))

    pub course_remove : course ≡ removes → (c : CallResult) → c ≡ buffers_after lent (remove_result_by own l image i key) → left ≡ as_change c
        → left ≡ book_buffers_after lent (course_result own l image i key course)
    unfolding course_result
    course_remove q c p e = comes _ (e ∙ ap as_change p ∙ change-left lent _) (sym (ap (course_result own l image i key) q))

    pub course-answer : (answer : BookAnswer) → course ≡ answers answer → left ≡ book_buffers_after lent (idle answer i)
        → left ≡ book_buffers_after lent (course_result own l image i key course)
    unfolding course_result
    course-answer answer q e = comes _ e (sym (ap (course_result own l image i key) q))

  -- ---- the steps: left is what the step leaves by its course

  module _ (lent : List Store) (left : BookResult) (course : Course)
      (e : left ≡ book_buffers_after lent (course_result own l image i key course)) where
    pub new-result : (quantity : ℕ) → course ≡ new_course quantity (locate_result l image i.heads i.next key).answer
        → left ≡ book_buffers_after lent (new_result_by own l image i key quantity)
    unfolding new_result_by result
    new-result quantity q = e ∙ ap (book_buffers_after lent) (ap result q ∙ new-at quantity (locate_result l image i.heads i.next key).answer)

    pub acknowledge-result :
        course ≡ acknowledge_course (locate_result l image i.heads i.next key).answer (seek l image i.heads i.next key)
        → left ≡ book_buffers_after lent (acknowledge_result_by own l image i key)
    unfolding acknowledge_result_by result
    acknowledge-result q = e ∙ ap (book_buffers_after lent) (ap result q ∙ acknowledge-at (seek l image i.heads i.next key))

    pub fill-result : (quantity : ℕ) → course ≡ fill_course quantity (seek l image i.heads i.next key)
        → left ≡ book_buffers_after lent (fill_result_by own l image i key quantity)
    unfolding fill_result_by result
    fill-result quantity q = e ∙ ap (book_buffers_after lent) (ap result q ∙ fill-at quantity (seek l image i.heads i.next key))

    pub withdraw-result : course ≡ withdraw_course (seek l image i.heads i.next key) → left ≡ book_buffers_after lent (withdraw_result_by own l image i key)
    unfolding withdraw_result_by result
    withdraw-result q = e ∙ ap (book_buffers_after lent) (ap result q ∙ withdraw-at (seek l image i.heads i.next key))
