-- A basket is refused by the rules' number, with any image, index and state. Assumes nothing.
use mathlib.Core.Path.{◌≡◌, refl, ◌∙◌}
use mathlib.Core.Bool.{Bool}
use mathlib.Core.List.{List}
use Prim.Native.Nat.{ℕ, zero, suc, ◌<◌}
use native.Mathlib.Omega.{arith}
use lib.Dec.{eqb}
use lib.ListN.{length}
use borrow.Author.Tests.{eqb-false}
use Rattle.prelude.specs.Answer.{refusal_in}
use Rattle.prelude.specs.Refusal.{or_else}
use Rattle.prelude.proofs.Refusals.{refuse_if_zero, or_else_zero, or_else_later}
use Rattle.layout.specs.Size.{slots_in}
use Rattle.index.specs.Allocation.{Allocation, taken, too_few, bad_link, link_fault, few_fault, reuse_fault, room_fault}
use Rattle.index.specs.declared.State.{State}
use Rattle.allocation.specs.Allocation.{allocation_by, allocation_chosen_by}
use Rattle.allocation.specs.inner.Walk.{take_fault}
use Rattle.allocation.proofs.Own.{choice_fine_by}
use Rattle.calls.specs.Change.{store_fault}
use Rattle.calls.specs.Result.{unchanged}
use Rattle.calls.specs.BasketItems.{KeyChange}
use Rattle.calls.specs.BasketRefusals.{key_count_fault, given_fault, basket_fault_by}
use Rattle.calls.specs.Basket.{basket_made, basket_done, basket_unless, basket_result_by}
use Rattle.calls.proofs.SingleRefusal.{refusal_by}
use Rattle.index.specs.Index.{index_of}

module _ (own : Bool) (l : ℕ) (image heads next : List ℕ) (s : State) (changes : List KeyChange) (at words : ℕ) where
  abbrev fault : ℕ
  fault = basket_fault_by own l image (index_of heads next s) changes at words

  -- without a refusal a key is given, and the rule takes a slot for each
  some : fault ≡ 0 → 0 < length changes
  unfolding basket_fault_by given_fault key_count_fault
  some z =
      let a = or_else_zero (given_fault changes at words) _ z in
      let b = or_else_zero (key_count_fault (length changes)) _ a.0 in
      positive (length changes) (eqb-false (length changes) 0 (refuse_if_zero (eqb (length changes) 0) 26 _ b.0 (omega arith)).0)
    where
      positive : (x : ℕ) → (x ≡ 0 → ⊥) → 0 < x
      positive zero ne = absurd (ne refl)
      positive (suc x) ne = omega arith

  taking_fine : fault ≡ 0 → take_fault (allocation_by own l image next (slots_in image) s.first s.newest (length changes)) ≡ 0
  unfolding basket_fault_by store_fault reuse_fault room_fault take_fault
  taking_fine z =
      let a = (or_else_zero _ _ (or_else_zero _ _ (or_else_zero _ _ z).1).1).1 in
      let b = or_else_zero _ _ a in
      or_else_later _ _ (or_else_zero _ _ (or_else_zero _ _ b.0).1).1 ∙ (or_else_zero _ _ (or_else_zero _ _ b.1).0).0

  done : (t : Allocation) → take_fault t ≡ 0 → refusal_in (basket_done l image (index_of heads next s) changes t).answer ≡ 0
  unfolding basket_done basket_made refusal_in take_fault link_fault few_fault or_else
  done (taken ts) e = refl
  done too_few e = absurd (omega arith)
  done bad_link e = absurd (omega arith)

  -- THE REFUSAL
  pub basket_refusal : refusal_in (basket_result_by own l image (index_of heads next s) changes at words).answer ≡ fault
  unfolding basket_result_by basket_unless unchanged refusal_in
  basket_refusal =
      refusal_by fault _ _
      (λ z.
      done (allocation_chosen_by own l image next (slots_in image) s.first s.newest (length changes))
      (choice_fine_by l image next (slots_in image) s.first s.newest (length changes) own (some z) (taking_fine z)))
      refl
