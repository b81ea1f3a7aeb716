-- A basket's index writes, from what the functions on the way ensure. Assumes nothing.
use mathlib.Core.Path.{◌≡◌, refl, sym, ap, ◌∙◌}
use mathlib.Core.Bool.{cond}
use mathlib.Core.List.{List, []}
use Prim.Native.Nat.{ℕ, zero, suc, ◌+◌, ◌-◌, ◌^◌, ◌≤◌, ◌<◌}
use native.Mathlib.Omega.{arith}
use lib.Dec.{eqb, ltb}
use lib.ListN.{length, get_or, set}
use borrow.Author.Tests.{eq-eqb, ne_eqb, lt-ltb, le-ltb}
use Rattle.prelude.proofs.Choice.{pick_true, pick_false}
use Rattle.index.specs.Index.{Index, reuse, head, index_of, set_next, set_start, set_last, link}
use Rattle.index.specs.Change.{append, link_new, insert_at, replace_at, remove_at}
use Rattle.index.specs.Allocation.{Taken}
use Rattle.index.specs.Basket.{take_slot, all_taken_of, slot_before, before_in, link_by}
use Rattle.index.specs.inner.Parts.{link_heads, link_next, append_next, append_state}
use Rattle.index.specs.inner.Basket.{takens_from, left_state}
use Rattle.index.specs.declared.State.{State}
use Rattle.index.specs.declared.Action.{Action}
use Rattle.index.specs.declared.Mode.{Mode}
use Rattle.index.specs.declared.Action.TheVariants.{Write, Remove}
use Rattle.index.specs.declared.Mode.TheVariants.{Insert, Replace}
use Rattle.index.proofs.Writes.{index_link, index_append}
use Rattle.index.proofs.BasketInside.{before_high}

-- ---- a slot leaves the reuse chain

pub index_left : (heads next : List ℕ) (s : State) (slot prev : ℕ)
    → take_slot (index_of heads next s) (record { slot = slot; prev = prev })
    ≡ index_of heads (link_next next prev (get_or next slot 0)) (left_state next s slot prev)
unfolding take_slot left_state link_next link set_next set_start set_last
index_left heads next s slot zero = refl
index_left heads next s slot (suc p) = rw (ne_eqb (suc p) 0 (λ e. omega arith))

-- the loop: j slots have left, and the rest answers for the whole
pub record Leaving (slots prevs : List ℕ) (count : ℕ) (next₀ : List ℕ) (s₀ : State) (next : List ℕ) (s : State) (j : ℕ) : Type 0 where
  pub position : j ≤ count
  pub size : length next ≡ length next₀
  pub rest : (heads : List ℕ) → all_taken_of (index_of heads next s) (takens_from slots prevs j (count - j))
      ≡ all_taken_of (index_of heads next₀ s₀) (takens_from slots prevs 0 count)

module _ (slots prevs : List ℕ) (count : ℕ) (next₀ : List ℕ) (s₀ : State) where
  module _ (next : List ℕ) (s : State) (j : ℕ) (w : Leaving slots prevs count next₀ s₀ next s j) where
    one_left : (heads : List ℕ) → j < count
        → all_taken_of (index_of heads next s) (takens_from slots prevs j (count - j))
        ≡ all_taken_of (index_of heads (link_next next (get_or prevs j 0) (get_or next (get_or slots j 0) 0))
        (left_state next s (get_or slots j 0) (get_or prevs j 0)))
        (takens_from slots prevs (j + 1) (count - (j + 1)))
    unfolding takens_from all_taken_of
    one_left heads h =
        let d : count - j ≡ suc (count - (j + 1)) = omega arith in
        let e : suc j ≡ j + 1 = omega arith in
        ap (λ (k : ℕ). all_taken_of (index_of heads next s) (takens_from slots prevs j k)) d
        ∙ ap (λ (i : Index). all_taken_of i (takens_from slots prevs (suc j) (count - (j + 1)))) (index_left heads next s (get_or slots j 0) (get_or prevs j 0))
        ∙ ap (λ (k : ℕ). all_taken_of (index_of heads (link_next next (get_or prevs j 0) (get_or next (get_or slots j 0) 0))
        (left_state next s (get_or slots j 0) (get_or prevs j 0))) (takens_from slots prevs k (count - (j + 1)))) e

    pub leaving_on : j < count → (next' : List ℕ) (t : State) → length next' ≡ length next → t ≡ left_state next s (get_or slots j 0) (get_or prevs j 0)
        → next' ≡ link_next next (get_or prevs j 0) (get_or next (get_or slots j 0) 0)
        → Leaving slots prevs count next₀ s₀ next' t (j + 1)
    unfolding left_state
    leaving_on h next' t size et en =
        record {
          position = omega arith;
          size = size ∙ w.size;
          rest = λ heads. (rw (et, en) (sym (one_left heads h))) ∙ w.rest heads;
        }

    pub leaving_ends : count ≤ j → (heads : List ℕ)
        → index_of heads next s ≡ all_taken_of (index_of heads next₀ s₀) (takens_from slots prevs 0 count)
    unfolding takens_from all_taken_of
    leaving_ends h heads =
        let d : count - j ≡ 0 = omega (arith, w.position) in
        sym (ap (λ (k : ℕ). all_taken_of (index_of heads next s) (takens_from slots prevs j k)) d) ∙ w.rest heads

-- ---- the slot before a target: what is left of the search answers for the whole

pub record Seeking (next : List ℕ) (n target first prev at left : ℕ) : Type 0 where
  pub place : at < 2 ^ 32
  pub rest : slot_before next n left target prev at ≡ slot_before next n n target 0 first

module _ (next : List ℕ) (n target first prev at left : ℕ) (w : Seeking next n target first prev at left) where
  module _ (some : 0 < left) where
    turn : slot_before next n left target prev at
        ≡ cond (eqb at target) prev (cond (eqb at 0) prev (cond (ltb n at) prev (slot_before next n (left - 1) target at (get_or next at 0))))
    unfolding slot_before
    turn = go left some
      where
        go : (k : ℕ) → 0 < k → slot_before next n k target prev at
            ≡ cond (eqb at target) prev (cond (eqb at 0) prev (cond (ltb n at) prev (slot_before next n (k - 1) target at (get_or next at 0))))
        go zero h = absurd (omega arith)
        go (suc k) h =
            let e : k ≡ suc k - 1 = omega arith in
            ap (λ (x : ℕ). cond (eqb at target) prev (cond (eqb at 0) prev (cond (ltb n at) prev (slot_before next n x target at (get_or next at 0))))) e

    pub seek_found : at ≡ target → prev ≡ slot_before next n n target 0 first
    seek_found e = sym (pick_true (eqb at target) _ _ (eq-eqb at target e)) ∙ sym turn ∙ w.rest

    module _ (ne : at ≡ target → ⊥) where
      pub seek_ended : at ≡ 0 → prev ≡ slot_before next n n target 0 first
      seek_ended z =
          sym (pick_false (eqb at target) _ _ (ne_eqb at target ne) ∙ pick_true (eqb at 0) _ _ (eq-eqb at 0 z)) ∙ sym turn ∙ w.rest

      module _ (low : at ≡ 0 → ⊥) where
        pub seek_above : n < at → prev ≡ slot_before next n n target 0 first
        seek_above h =
            sym
            (pick_false (eqb at target) _ _ (ne_eqb at target ne) ∙ pick_false (eqb at 0) _ _ (ne_eqb at 0 low)
            ∙ pick_true (ltb n at) _ _ (lt-ltb n at h))
            ∙ sym turn ∙ w.rest

        pub seek_on : at ≤ n → get_or next at 0 < 2 ^ 32 → Seeking next n target first at (get_or next at 0) (left - 1)
        seek_on h fits =
            record {
              place = fits;
              rest =
                  sym
                  (turn ∙ pick_false (eqb at target) _ _ (ne_eqb at target ne) ∙ pick_false (eqb at 0) _ _ (ne_eqb at 0 low)
                  ∙ pick_false (ltb n at) _ _ (le-ltb n at h))
                  ∙ w.rest;
            }

  pub seek_over : left ≤ 0 → prev ≡ slot_before next n n target 0 first
  unfolding slot_before
  seek_over h = let z : left ≡ 0 = omega arith in sym (ap (λ (k : ℕ). slot_before next n k target prev at) z) ∙ w.rest

-- it lies inside the index
pub before_within : (next : List ℕ) (n target first r : ℕ) → r ≡ slot_before next n n target 0 first → length next ≡ n + 1 → r < length next
before_within next n target first r e size = omega (arith, e, before_high next n n target 0 first (omega arith))

-- ---- a key is linked and appended: p is the slot before its place

module _ (n : ℕ) (heads next : List ℕ) (s : State) (h slot p : ℕ) (heads' next₁ : List ℕ) where
  pub insert_linked : p ≡ slot_before next n n 0 0 (get_or heads h 0) → heads' ≡ link_heads heads h p slot
      → next₁ ≡ link_next (set next slot 0) p slot
      → index_of heads' next₁ s ≡ link_by n (index_of heads next s) (Write Insert) h 0 slot
  unfolding link_by before_in insert_at link_new set_next
  insert_linked ep eh en =
      sym
      (ap (λ (q : ℕ). link (set_next (index_of heads next s) slot 0) (head h) q slot) (sym ep)
      ∙ index_link heads (set next slot 0) s h p slot ∙ cc)

  module _ (old : ℕ) (ep : p ≡ slot_before next n n old 0 (get_or heads h 0)) (next₂ : List ℕ) (back : State) (eb : back ≡ append_state s old)
      (e₂ : next₂ ≡ append_next next₁ s old) where
    pub replace_linked : heads' ≡ link_heads heads h p slot → next₁ ≡ link_next (set next slot (get_or next old 0)) p slot
        → index_of heads' next₂ back ≡ link_by n (index_of heads next s) (Write Replace) h old slot
    unfolding link_by before_in replace_at link_new set_next append_state
    replace_linked eh e₁ =
        sym
        (ap (λ (q : ℕ). append (link (set_next (index_of heads next s) slot (get_or next old 0)) (head h) q slot) old) (sym ep)
        ∙ ap (λ (i : Index). append i old) (index_link heads (set next slot (get_or next old 0)) s h p slot)
        ∙ index_append _ _ s old ∙ cc)

    pub remove_linked : (next₃ : List ℕ) (all : State) → heads' ≡ link_heads heads h p (get_or next old 0)
        → next₁ ≡ link_next next p (get_or next old 0) → all ≡ append_state back slot → next₃ ≡ append_next next₂ back slot
        → index_of heads' next₃ all ≡ link_by n (index_of heads next s) Remove h old slot
    unfolding link_by before_in remove_at append_state
    remove_linked next₃ all eh e₁ ea e₃ =
        sym
        (ap (λ (q : ℕ). append (append (link (index_of heads next s) (head h) q (get_or next old 0)) old) slot) (sym ep)
        ∙ ap (λ (i : Index). append (append i old) slot) (index_link heads next s h p (get_or next old 0))
        ∙ ap (λ (i : Index). append i slot) (index_append _ _ s old)
        ∙ index_append _ _ (append_state s old) slot ∙ cc)

-- ---- by what is asked

module _ (n : ℕ) (heads next : List ℕ) (s : State) (h old slot : ℕ) (heads' next' : List ℕ) (r : State) where
  abbrev linked : Action → ℕ → Type 0
  linked by o = index_of heads' next' r ≡ link_by n (index_of heads next s) by h o slot

  pub inserted : {a : Action} {mode : Mode} → a ≡ Write mode → mode ≡ Insert → linked (Write Insert) 0 → linked a old
  unfolding link_by
  inserted e d p = rw (e, d) p

  pub replaced : {a : Action} {mode : Mode} → a ≡ Write mode → mode ≡ Replace → linked (Write Replace) old → linked a old
  replaced e d p = rw (e, d) p

  pub removed : {a : Action} → a ≡ Remove → linked Remove old → linked a old
  removed e p = rw e p
