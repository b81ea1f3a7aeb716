-- The numbers of a book step: 10, 13, 20, 21 and 23 never show. Assumes nothing.
use mathlib.Core.Path.{◌≡◌, refl, sym, subst}
use mathlib.Core.Bool.{Bool, true, false, cond}
use mathlib.Core.Logic.{inl, inr}
use mathlib.Core.List.{List, [], ◌∷◌}
use Prim.Native.Nat.{ℕ}
use native.Mathlib.Omega.{arith}
use lib.Dec.{eqb, ltb}
use lib.ListN.{replicate, take, length-replicate}
use Rattle.prelude.specs.Members.{In}
use Rattle.prelude.specs.Refusal.{refuse_if, unless_refused}
use Rattle.prelude.specs.Answer.{Answer, gives, absent, refused}
use Rattle.prelude.proofs.defs.Among.{are_among}
use Rattle.prelude.proofs.Among.{one_of, among}
use Rattle.book.proofs.OrderBytes.{order_length}
use Rattle.interface.specs.Set.{World, State, Insert, Replace, write_result, remove_result, get_result, locate_result, limit, Layout, CallResult, index_of}
use Rattle.interface.specs.Set.{Index}
use Rattle.prelude.specs.Numbers.{Numbered}
use Rattle.interface.specs.Numbers.{AnswersAsAsked, locate_refusals, storing_refusals, roomy_get_refusals}
use Rattle.interface.proofs.Numbers.{locate_asked, get_asked, remove_numbered, roomy_get_numbered, locate_numbered}
use Rattle.book.specs.Orders.{order_bytes, order_of, is_order, open_of, sent, acknowledged, filled_by}
use Rattle.book.specs.Steps.{Step, new, acknowledge, fill, withdraw, declined, idle, change_answers, as_change, Sought, order, none_there, sought_in}
use Rattle.book.specs.Steps.{sought_by, seek, new_at, new_result_by, already_at, acknowledge_at, acknowledge_result_by, quantity_fault, fill_by, fill_at}
use Rattle.book.specs.Steps.{fill_result_by, withdraw_at, withdraw_result_by, booked, booked_by}
use Rattle.book.specs.Numbers.{step_refusals, StepNumbered}
use Rattle.book.specs.declared.Order.{Order}

-- ---- lists of numbers

-- 23 becomes 18
get_in : (k : ℕ) → In k roomy_get_refusals → In (cond (eqb k 23) 18 k) step_refusals
get_in k (inl e) = rw e (one_of 1 step_refusals refl)
get_in k (inr (inl e)) = rw e (one_of 2 step_refusals refl)
get_in k (inr (inr (inl e))) = rw e (one_of 3 step_refusals refl)
get_in k (inr (inr (inr (inl e)))) = rw e (one_of 4 step_refusals refl)
get_in k (inr (inr (inr (inr (inl e))))) = rw e (one_of 11 step_refusals refl)
get_in k (inr (inr (inr (inr (inr (inr x6)))))) = elim x6 [ ]
get_in k (inr (inr (inr (inr (inr (inl e)))))) = rw e (one_of 18 step_refusals refl)

-- where a step finds an order its get answered a value, and where not the number is one of them
abbrev StepFound : Answer → Sought → Type 0
StepFound got (order o) = AnswersAsAsked Replace got
StepFound got (none_there number) = In number step_refusals

-- ---- the calls that a step makes

module _ (l : ℕ) (lay : Layout l) (image : List ℕ) (i : Index) (key : ℕ) where
  change_in : (ks : List ℕ) → are_among ks step_refusals ≡ true → (c : CallResult) → Numbered ks c.answer → StepNumbered (as_change c).answer
  unfolding as_change change_answers
  change_in ks e c n = go c.answer n
    where
      go : (a : Answer) → Numbered ks a → StepNumbered (change_answers a)
      go (gives values) h = tt
      go absent h = one_of 18 step_refusals refl
      go (refused k) h = among ks step_refusals e k h

  insert_step : (o : Order) → AnswersAsAsked Insert (locate_result l image i.heads i.next key).answer
      → StepNumbered (as_change (write_result l image i Insert key (order_bytes o))).answer
  insert_step o h =
      change_in storing_refusals refl (write_result l image i Insert key (order_bytes o))
      (locate_asked l image i key (order_bytes o) (omega (arith, order_length o, lay.high)) h)

  -- what a get with room for any value answers
  got : Answer
  got = (get_result l image i.heads i.next key (replicate (limit l) 0)).answer

  replace_step : (o : Order) → AnswersAsAsked Replace got
      → StepNumbered (as_change (write_result l image i Replace key (order_bytes o))).answer
  unfolding got
  replace_step o h =
      change_in storing_refusals refl (write_result l image i Replace key (order_bytes o))
      (get_asked l image i key (order_bytes o) (replicate (limit l) 0) (omega (arith, order_length o, lay.high)) h)

  remove_step : StepNumbered (as_change (remove_result l image i key)).answer
  remove_step = change_in storing_refusals refl (remove_result l image i key) (remove_numbered l image i key)

  -- what a step on an order finds
  sought-in : StepFound got (seek l image i.heads i.next key)
  unfolding seek sought_by sought_in got
  sought-in =
      go _ (get_result l image i.heads i.next key (replicate (limit l) 0)).answer
      (roomy_get_numbered l image i.heads i.next key (replicate (limit l) 0) (omega (arith, length-replicate {A = ℕ} (limit l) 0)))
    where
      found : (values : List ℕ) (b : Bool) (o : Order) → StepFound (gives values) (cond b (order o) (none_there 18))
      found values true o = tt
      found values false o = one_of 18 step_refusals refl

      go : (out : List ℕ) (a : Answer) → Numbered roomy_get_refusals a → StepFound a (sought_in out a)
      go out (gives []) h = one_of 18 step_refusals refl
      go out (gives (n ∷ values)) h = found (n ∷ values) (is_order (take n out)) (order_of (take n out))
      go out absent h = one_of 18 step_refusals refl
      go out (refused k) h = get_in k h

  -- ---- each step

  located_in : (a : Answer) → (locate_result l image i.heads i.next key).answer ≡ a → Numbered locate_refusals a → (quantity : ℕ)
      → StepNumbered (new_at false l image i key quantity a).answer
  unfolding new_at idle
  located_in (gives values) e h quantity = one_of 17 step_refusals refl
  located_in absent e h quantity = go (eqb quantity 0)
    where
      go : (b : Bool) → StepNumbered (cond b (idle (declined 19) i) (as_change (write_result l image i Insert key (order_bytes (sent quantity))))).answer
      go true = one_of 19 step_refusals refl
      go false = insert_step (sent quantity) (subst (AnswersAsAsked Insert) (sym e) tt)
  located_in (refused k) e h quantity = among locate_refusals step_refusals refl k h

  already_in : (a : Answer) → Numbered locate_refusals a → StepNumbered (already_at i a).answer
  unfolding already_at idle
  already_in (gives values) h = tt
  already_in absent h = one_of 18 step_refusals refl
  already_in (refused k) h = among locate_refusals step_refusals refl k h

  acknowledge_in : (sought : Sought) → StepFound got sought → StepNumbered (acknowledge_at false l image i key sought).answer
  unfolding acknowledge_at idle
  acknowledge_in (order o) h = go (eqb o.state 2)
    where
      go : (b : Bool) → StepNumbered
          (cond b (already_at i (locate_result l image i.heads i.next key).answer)
          (as_change (write_result l image i Replace key (order_bytes (acknowledged o))))).answer
      go true = already_in _ (locate_numbered l image i.heads i.next key)
      go false = replace_step (acknowledged o) h
  acknowledge_in (none_there k) h = h

  fill_in : (quantity : ℕ) (sought : Sought) → StepFound got sought → StepNumbered (fill_at false l image i key quantity sought).answer
  unfolding fill_at fill_by quantity_fault refuse_if unless_refused idle
  fill_in quantity (order o) h = go (eqb quantity 0) (ltb (open_of o) quantity) (eqb quantity (open_of o))
    where
      go : (a b c : Bool)
          → StepNumbered
          (unless_refused (refuse_if a 19 (refuse_if b 19 0))
          (cond c (as_change (remove_result l image i key)) (as_change (write_result l image i Replace key (order_bytes (filled_by quantity o)))))
          (idle (declined (refuse_if a 19 (refuse_if b 19 0))) i)).answer
      go true b c = one_of 19 step_refusals refl
      go false true c = one_of 19 step_refusals refl
      go false false true = remove_step
      go false false false = replace_step (filled_by quantity o) h
  fill_in quantity (none_there k) h = h

  withdraw_in : (sought : Sought) → StepFound got sought → StepNumbered (withdraw_at false l image i key sought).answer
  unfolding withdraw_at idle
  withdraw_in (order o) h = remove_step
  withdraw_in (none_there k) h = h

-- THE NUMBERS of a step
pub step_numbered : (l : ℕ) → Layout l → (w : World) (step : Step) → StepNumbered (booked l w step).answer
unfolding booked_by new_result_by acknowledge_result_by fill_result_by withdraw_result_by
step_numbered l lay w (new key quantity) = located_in l lay w.image w.index key _ refl (locate_numbered l _ _ _ key) quantity
step_numbered l lay w (acknowledge key) =
    acknowledge_in l lay w.image w.index key _ (sought-in l lay w.image w.index key)
step_numbered l lay w (fill key quantity) =
    fill_in l lay w.image w.index key quantity _ (sought-in l lay w.image w.index key)
step_numbered l lay w (withdraw key) =
    withdraw_in l lay w.image w.index key _ (sought-in l lay w.image w.index key)
