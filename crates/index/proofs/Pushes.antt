-- The ways out of push_front and chain_up's loop. Assumes nothing.
use mathlib.Core.Path.{◌≡◌, refl, sym, ap, ◌∙◌}
use mathlib.Core.List.{List, ◌∷◌}
use Prim.Native.Nat.{ℕ, suc, ◌-◌, ◌≤◌, ◌<◌}
use native.Mathlib.Omega.{arith}
use lib.ListN.{length, get_or, set, drop}
use lib.Seq.{drop-length, drop-cons}
use borrow.Author.Tests.{eq-eqb, ne_eqb}
use Rattle.index.specs.Index.{Index, index_of, no_state, with_ends, set_next, set_start, set_last, link}
use Rattle.index.specs.Change.{link_new}
use Rattle.index.specs.inner.Build.{push, build, chain_from, place_in, unbuilt}
use Rattle.index.specs.declared.State.{State}

-- ---- push_front

module _ (heads next : List ℕ) (s : State) (place slot : ℕ) where
  -- to the front of reuse, which was empty
  pub front_only : place ≡ 0 → s.last ≡ 0
      → index_of heads (set next slot s.first) (with_ends s slot slot) ≡ push (index_of heads next s) (chain_from place) slot
  unfolding push chain_from link_new link set_next set_start set_last
  front_only e l = rw (e, eq-eqb s.last 0 l) refl

  -- or was not
  pub front_reuse : place ≡ 0 → (s.last ≡ 0 → ⊥)
      → index_of heads (set next slot s.first) (with_ends s slot s.last) ≡ push (index_of heads next s) (chain_from place) slot
  unfolding push chain_from link_new link set_next set_start set_last
  front_reuse e l = rw (e, ne_eqb s.last 0 l) refl

  -- to the front of a head's chain
  pub front_head : (place ≡ 0 → ⊥)
      → index_of (set heads (place - 1) slot) (set next slot (get_or heads (place - 1) 0)) s
      ≡ push (index_of heads next s) (chain_from place) slot
  unfolding push chain_from link_new link set_next set_start
  front_head n =
      let e : place ≡ suc (place - 1) = omega arith in
      sym (ap (λ (p : ℕ). push (index_of heads next s) (chain_from p) slot) e)

-- ---- chain_up

-- before a turn: the slots from `left` on are pushed
pub record Going (heads₀ next₀ order places heads next : List ℕ) (s : State) (left : ℕ) : Type 0 where
  pub position : left ≤ length order
  pub heads_size : length heads ≡ length heads₀
  pub next_size : length next ≡ length next₀
  pub done : index_of heads next s ≡ build (place_in places) (unbuilt heads₀ next₀) (drop left order)

pub going_starts : (heads next order places : List ℕ)
    → Going heads next order places heads next no_state (length order)
unfolding build
going_starts heads next order places =
    record {
      position = omega arith;
      heads_size = refl;
      next_size = refl;
      done = rw (drop-length order) refl;
    }

module _
    (heads₀ next₀ order places heads next : List ℕ) (s : State) (left : ℕ)
    (g : Going heads₀ next₀ order places heads next s left) where
  pub going_slot : 0 < left → left - 1 < length order
  going_slot h = omega (arith, g.position)

  pub going_on : (heads' next' : List ℕ) (s' : State) → 0 < left → length heads' ≡ length heads → length next' ≡ length next
      → index_of heads' next' s' ≡ push (index_of heads next s) (chain_from (get_or places (get_or order (left - 1) 0) 0)) (get_or order (left - 1) 0)
      → Going heads₀ next₀ order places heads' next' s' (left - 1)
  unfolding build place_in
  going_on heads' next' s' h lh ln p =
      let x = get_or order (left - 1) 0 in
      let e : suc (left - 1) ≡ left = omega arith in
      let d : drop (left - 1) order ≡ x ∷ drop left order =
      drop-cons order (left - 1) 0 (going_slot h) ∙ ap (λ (m : ℕ). x ∷ drop m order) e in
      record {
        position = omega (arith, g.position);
        heads_size = lh ∙ g.heads_size;
        next_size = ln ∙ g.next_size;
        done =
            p ∙ ap (λ (i : Index). push i (chain_from (get_or places x 0)) x) g.done
            ∙ sym (ap (build (place_in places) (unbuilt heads₀ next₀)) d);
      }
