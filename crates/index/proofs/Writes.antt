-- The parts make up the definitions, and the three calls' changes from what the functions on the way ensure. Assumes nothing.
use mathlib.Core.Path.{◌≡◌, refl, sym, ap, ◌∙◌}
use mathlib.Core.Logic.{by_cases}
use mathlib.Core.Bool.{cond}
use mathlib.Core.List.{List}
use Prim.Native.Nat.{ℕ, zero, suc, ◌+◌, ◌-◌, ◌<◌}
use native.Mathlib.Decide.{dec_lt}
use native.Mathlib.Omega.{arith}
use lib.Dec.{eqb}
use lib.ListN.{length, get_or, set}
use borrow.Author.Tests.{eq-eqb, ne_eqb}
use Rattle.index.specs.Index.{Index, reuse, head, index_of, with_ends, with_counts, set_next, set_start, set_last, link}
use Rattle.index.specs.Change.{take_first, append, link_new, insert_at, replace_at, remove_at}
use Rattle.index.specs.inner.Parts.{insert_new, replace_held, remove_held, link_heads, link_next, take_state, append_next, append_state}
use Rattle.index.specs.declared.State.{State}

-- ---- what the parts keep of a state

pub taken_last : (next : List ℕ) (s t : State) → t ≡ take_state next s → s.last < length next → t.last < length next
unfolding take_state
taken_last next s t e h =
    rw e
    (by_cases (dec_lt 0 (get_or next s.first 0)) (λ k. rw (ne_eqb (get_or next s.first 0) 0 (λ e. omega arith)) h)
    (λ k. rw (eq-eqb (get_or next s.first 0) 0 (omega arith)) (omega arith)))

pub taken_live : (next : List ℕ) (s t : State) → t ≡ take_state next s → t.live ≡ s.live
unfolding take_state
taken_live next s t e = ap (λ (u : State). u.live) e

pub taken_version : (next : List ℕ) (s t : State) → t ≡ take_state next s → t.version ≡ s.version
unfolding take_state
taken_version next s t e = ap (λ (u : State). u.version) e

pub append_last : (s t : State) (slot : ℕ) → t ≡ append_state s slot → t.last ≡ slot
unfolding append_state
append_last s t slot e = ap (λ (u : State). u.last) e

pub append_live : (s t : State) (slot : ℕ) → t ≡ append_state s slot → t.live ≡ s.live
unfolding append_state
append_live s t slot e = ap (λ (u : State). u.live) e

pub append_version : (s t : State) (slot : ℕ) → t ≡ append_state s slot → t.version ≡ s.version
unfolding append_state
append_version s t slot e = ap (λ (u : State). u.version) e

-- ---- the parts make up take_first, link and append

pub index_take : (heads next : List ℕ) (s : State) → take_first (index_of heads next s) ≡ index_of heads next (take_state next s)
unfolding take_first take_state set_last set_start
index_take heads next s = refl

pub index_link : (heads next : List ℕ) (s : State) (h prev slot : ℕ)
    → link (index_of heads next s) (head h) prev slot ≡ index_of (link_heads heads h prev slot) (link_next next prev slot) s
unfolding link link_heads link_next set_next set_start
index_link heads next s h zero slot = refl
index_link heads next s h (suc p) slot = rw (ne_eqb (suc p) 0 (λ e. omega arith))

end_link : (heads next : List ℕ) (s : State) (prev slot : ℕ) → prev ≡ s.last
    → set_last (link (index_of heads next s) reuse prev slot) slot
    ≡ index_of heads (link_next next prev slot) (with_ends s (cond (eqb prev 0) slot s.first) slot)
unfolding link link_next set_next set_start set_last
end_link heads next s zero slot e = refl
end_link heads next s (suc p) slot e = rw (ne_eqb (suc p) 0 (λ e. omega arith))

pub index_append : (heads next : List ℕ) (s : State) (slot : ℕ)
    → append (index_of heads next s) slot ≡ index_of heads (append_next next s slot) (append_state s slot)
unfolding append append_next append_state set_next
index_append heads next s slot = end_link heads (set next slot 0) s s.last slot refl

-- ---- the calls' changes

-- an index that is another one, with the same counts, is that one with them
recount : (i j : Index) {live live' version version' : ℕ} (newest : ℕ) → i ≡ j → live ≡ live' → version ≡ version'
    → with_counts i live version newest ≡ with_counts j live' version' newest
recount i j newest e l v = cc

module _ (heads next : List ℕ) (s rest : State) (h prev : ℕ) (er : rest ≡ take_state next s) where
  took : take_first (index_of heads next s) ≡ index_of heads next rest
  took = index_take heads next s ∙ ap (index_of heads next) (sym er)

  pub insert-new : (heads' next' : List ℕ) → heads' ≡ link_heads heads h prev s.first
      → next' ≡ link_next (set next s.first 0) prev s.first
      → index_of heads' next' (record { first = rest.first; last = rest.last; live = rest.live + 1; version = rest.version + 1; newest = s.first })
      ≡ with_counts (insert_new (index_of heads next s) h prev) (s.live + 1) (s.version + 1) s.first
  unfolding insert_new insert_at link_new set_next
  insert-new heads' next' eh en =
      recount (index_of heads' next' rest) (insert_new (index_of heads next s) h prev) s.first
      (sym
      (ap (λ (i : Index). link (set_next i s.first 0) (head h) prev s.first) took
      ∙ index_link heads (set next s.first 0) rest h prev s.first ∙ cc)) (omega (arith, taken_live next s rest er))
      (omega (arith, taken_version next s rest er))

  module _
      (old : ℕ) (heads' next₁ next₂ : List ℕ) (back : State) (eb : back ≡ append_state rest old)
      (en : next₂ ≡ append_next next₁ rest old) where
    pub replace-held : heads' ≡ link_heads heads h prev s.first
        → next₁ ≡ link_next (set next s.first (get_or next old 0)) prev s.first
        → index_of heads' next₂ (record { first = back.first; last = back.last; live = back.live; version = back.version + 1; newest = s.first })
        ≡ with_counts (replace_held (index_of heads next s) h prev old) s.live (s.version + 1) s.first
    unfolding replace_held replace_at link_new set_next
    replace-held eh e₁ =
        recount (index_of heads' next₂ back) (replace_held (index_of heads next s) h prev old) s.first
        (sym
        (ap (λ (i : Index). append (link (set_next i s.first (get_or i.next old 0)) (head h) prev s.first) old) took
        ∙ ap (λ (i : Index). append i old) (index_link heads (set next s.first (get_or next old 0)) rest h prev s.first)
        ∙ index_append _ _ rest old ∙ cc)) (append_live rest back old eb ∙ taken_live next s rest er)
        (omega (arith, append_version rest back old eb, taken_version next s rest er))

    pub remove-held : (next₃ : List ℕ) (all : State) → heads' ≡ link_heads heads h prev (get_or next old 0)
        → next₁ ≡ link_next next prev (get_or next old 0) → all ≡ append_state back s.first → next₃ ≡ append_next next₂ back s.first
        → index_of heads' next₃ (record { first = all.first; last = all.last; live = all.live - 1; version = all.version + 1; newest = s.first })
        ≡ with_counts (remove_held (index_of heads next s) h prev old) (s.live - 1) (s.version + 1) s.first
    unfolding remove_held remove_at
    remove-held next₃ all eh e₁ ea e₃ =
        recount (index_of heads' next₃ all) (remove_held (index_of heads next s) h prev old) s.first
        (sym
        (ap (λ (i : Index). append (append (link i (head h) prev (get_or i.next old 0)) old) s.first) took
        ∙ ap (λ (i : Index). append (append i old) s.first) (index_link heads next rest h prev (get_or next old 0))
        ∙ ap (λ (i : Index). append i s.first) (index_append _ _ rest old)
        ∙ index_append _ _ (append_state rest old) s.first ∙ cc))
        (omega (arith, append_live back all s.first ea, append_live rest back old eb, taken_live next s rest er))
        (omega (arith, append_version back all s.first ea, append_version rest back old eb, taken_version next s rest er))
