-- The walk of the reuse chain: its turns, its refusal, and that it stays without one by a wider test, with more slots
-- to be met and fewer wanted. Assumes nothing.
use mathlib.Core.Path.{◌≡◌, refl, sym, ap, ◌∙◌}
use mathlib.Core.Bool.{Bool, true, false, cond}
use mathlib.Core.Logic.{inl, inr}
use mathlib.Core.List.{List, [], ◌∷◌}
use Prim.Native.Nat.{ℕ, zero, suc, ◌-◌, ◌^◌, ◌≤◌, ◌<◌}
use native.Mathlib.Omega.{arith}
use lib.Dec.{eqb, ltb}
use lib.ListN.{get_or}
use borrow.Author.Tests.{eq-eqb, ne_eqb, lt-ltb, le-ltb, eqb-true, eqb-false, ltb-true, ltb-false}
use Rattle.prelude.specs.Members.{In, Slot}
use Rattle.prelude.specs.Refusal.{refuse_if, or_else}
use Rattle.prelude.proofs.Choice.{pick_true, pick_false}
use Rattle.prelude.proofs.Refusals.{refuse_if-true, refuse_if-false, refuse_if_zero}
use Rattle.index.specs.Allocation.{Allocation, taken, too_few, bad_link, with_taken, at_end, allocation_walk, link_fault, few_fault}
use Rattle.allocation.specs.inner.Walk.{take_fault, end_fault, walk_fault}

-- ---- the turns of the walk

module _ (may : List ℕ → ℕ → Bool) (next : List ℕ) (n left wanted prev at : ℕ) (chosen : List ℕ) where
  pub take_ended : at ≡ 0 → 0 < wanted → allocation_walk may next n left wanted prev at chosen ≡ too_few
  unfolding allocation_walk at_end
  take_ended z some = go left
    where
      few : cond (eqb wanted 0) (taken []) too_few ≡ too_few
      few = pick_false (eqb wanted 0) _ _ (ne_eqb wanted 0 (λ e. omega arith))

      go : (k : ℕ) → allocation_walk may next n k wanted prev at chosen ≡ too_few
      go zero = pick_true (eqb at 0) _ _ (eq-eqb at 0 z) ∙ few
      go (suc k) = pick_true (eqb at 0) _ _ (eq-eqb at 0 z) ∙ few

  pub take_above : n < at → allocation_walk may next n left wanted prev at chosen ≡ bad_link
  unfolding allocation_walk
  take_above h = go left
    where
      go : (k : ℕ) → allocation_walk may next n k wanted prev at chosen ≡ bad_link
      go zero = pick_false (eqb at 0) _ _ (ne_eqb at 0 (λ e. omega arith))
      go (suc k) = pick_false (eqb at 0) _ _ (ne_eqb at 0 (λ e. omega arith)) ∙ pick_true (ltb n at) _ _ (lt-ltb n at h)

  pub take_over : left ≡ 0 → (at ≡ 0 → ⊥) → allocation_walk may next n left wanted prev at chosen ≡ bad_link
  unfolding allocation_walk
  take_over z ne = ap (λ (k : ℕ). allocation_walk may next n k wanted prev at chosen) z ∙ pick_false (eqb at 0) _ _ (ne_eqb at 0 ne)

  pub take_turn : 0 < left → 0 < at → at ≤ n → 0 < wanted → allocation_walk may next n left wanted prev at chosen
      ≡ cond (may chosen at) (with_taken at prev (allocation_walk may next n (left - 1) (wanted - 1) prev (get_or next at 0) (at ∷ chosen)))
      (allocation_walk may next n (left - 1) wanted at (get_or next at 0) chosen)
  unfolding allocation_walk
  take_turn some low high more = go left some
    where
      go : (k : ℕ) → 0 < k → allocation_walk may next n k wanted prev at chosen
          ≡ cond (may chosen at) (with_taken at prev (allocation_walk may next n (k - 1) (wanted - 1) prev (get_or next at 0) (at ∷ chosen)))
          (allocation_walk may next n (k - 1) wanted at (get_or next at 0) chosen)
      go zero h = absurd (omega arith)
      go (suc k) h =
          let e : k ≡ suc k - 1 = omega arith in
          pick_false (eqb at 0) _ _ (ne_eqb at 0 (λ q. omega arith)) ∙ pick_false (ltb n at) _ _ (le-ltb n at high)
          ∙ pick_false (eqb wanted 0) _ _ (ne_eqb wanted 0 (λ q. omega arith))
          ∙ ap (λ (x : ℕ).
          cond (may chosen at) (with_taken at prev (allocation_walk may next n x (wanted - 1) prev (get_or next at 0) (at ∷ chosen)))
          (allocation_walk may next n x wanted at (get_or next at 0) chosen)) e

-- ---- the refusal of the slots taken

pub with_fault : (slot prev : ℕ) (t : Allocation) → take_fault (with_taken slot prev t) ≡ take_fault t
unfolding take_fault with_taken link_fault few_fault
with_fault slot prev (taken ts) = refl
with_fault slot prev too_few = refl
with_fault slot prev bad_link = refl

-- no slot is wanted
pub end-fault : (may : List ℕ → ℕ → Bool) (next : List ℕ) (n left prev at : ℕ) (chosen : List ℕ)
    → take_fault (allocation_walk may next n left 0 prev at chosen) ≡ end_fault n left at
unfolding allocation_walk at_end take_fault link_fault few_fault or_else end_fault refuse_if
end-fault may next n zero prev at chosen = go (eqb at 0) (ltb n at)
  where
    go : (a b : Bool) → take_fault (cond a (at_end 0) bad_link) ≡ refuse_if a 0 (refuse_if b 11 (refuse_if (eqb 0 0) 11 0))
    go true b = refl
    go false true = refl
    go false false = refl
end-fault may next n (suc left) prev at chosen = go (eqb at 0) (ltb n at)
  where
    go : (a b : Bool) → take_fault (cond a (at_end 0) (cond b bad_link (taken []))) ≡ refuse_if a 0 (refuse_if b 11 (refuse_if (eqb (suc left) 0) 11 0))
    go true b = refl
    go false true = refl
    go false false = sym (refuse_if-false (eqb (suc left) 0) 11 0 (ne_eqb (suc left) 0 (λ e. omega arith)))

module _ (may : ℕ → Bool) (next : List ℕ) (n : ℕ) where
  abbrev walk : (left wanted prev at : ℕ) → (chosen : List ℕ) → Allocation
  walk left wanted prev at chosen = allocation_walk (λ c. may) next n left wanted prev at chosen

  -- after the slot at which it is was taken, the last one or not
  after : (left wanted prev at : ℕ) (chosen : List ℕ) → 0 < wanted
      → ((v : ℕ) → 0 < v → take_fault (walk left v prev at chosen) ≡ walk_fault may next n left v at)
      → take_fault (walk left (wanted - 1) prev at chosen) ≡ cond (eqb wanted 1) (end_fault n left at) (walk_fault may next n left (wanted - 1) at)
  after left wanted prev at chosen some ih = go (eqb wanted 1) refl
    where
      go : (b : Bool) → eqb wanted 1 ≡ b → take_fault (walk left (wanted - 1) prev at chosen)
          ≡ cond b (end_fault n left at) (walk_fault may next n left (wanted - 1) at)
      go true e =
          let z : wanted - 1 ≡ 0 = omega (arith, eqb-true wanted 1 e) in
          ap (λ (v : ℕ). take_fault (walk left v prev at chosen)) z ∙ end-fault (λ c. may) next n left prev at chosen
      go false e = ih (wanted - 1) (omega (arith, eqb-false wanted 1 e))

  pub walk-fault : (left wanted prev at : ℕ) (chosen : List ℕ) → 0 < wanted
      → take_fault (walk left wanted prev at chosen) ≡ walk_fault may next n left wanted at
  unfolding allocation_walk walk_fault at_end take_fault link_fault few_fault or_else refuse_if
  walk-fault zero wanted prev at chosen some = go (eqb at 0) (eqb wanted 0) (ne_eqb wanted 0 (λ e. omega arith))
    where
      go : (a b : Bool) → b ≡ false → take_fault (cond a (cond b (taken []) too_few) bad_link) ≡ refuse_if a 28 11
      go true b e = ap (λ (x : Bool). take_fault (cond x (taken []) too_few)) e
      go false b e = refl
  walk-fault (suc left) wanted prev at chosen some =
      go (eqb at 0) (ltb n at) (eqb wanted 0) (ne_eqb wanted 0 (λ e. omega arith)) (may at) _ _
      (with_fault at prev _ ∙ after left wanted prev (get_or next at 0) (at ∷ chosen) some (λ v h. walk-fault left v prev (get_or next at 0) (at ∷ chosen) h))
      (walk-fault left wanted at (get_or next at 0) chosen some)
    where
      go : (a b d : Bool) → d ≡ false → (c : Bool) (t u : Allocation) → {x y : ℕ} → take_fault t ≡ x → take_fault u ≡ y
          → take_fault (cond a (cond d (taken []) too_few) (cond b bad_link (cond d (taken []) (cond c t u)))) ≡ refuse_if a 28 (refuse_if b 11 (cond c x y))
      go true b d e c t u p q = ap (λ (x : Bool). take_fault (cond x (taken []) too_few)) e
      go false true d e c t u p q = refl
      go false false d e true t u p q = ap (λ (x : Bool). take_fault (cond x (taken []) t)) e ∙ p
      go false false d e false t u p q = ap (λ (x : Bool). take_fault (cond x (taken []) u)) e ∙ q

-- ---- its turns

module _ (may : ℕ → Bool) (next : List ℕ) (n : ℕ) where
  -- at the end of the chain, whatever may still be met
  pub walk_ended : (left wanted at : ℕ) → at ≡ 0 → walk_fault may next n left wanted at ≡ 28
  unfolding walk_fault
  walk_ended zero wanted at e = refuse_if-true (eqb at 0) _ _ (eq-eqb at 0 e)
  walk_ended (suc left) wanted at e = refuse_if-true (eqb at 0) _ _ (eq-eqb at 0 e)

  -- no more may be met
  pub walk_over : (left wanted at : ℕ) → left ≡ 0 → (at ≡ 0 → ⊥) → walk_fault may next n left wanted at ≡ 11
  unfolding walk_fault
  walk_over zero wanted at z ne = refuse_if-false (eqb at 0) _ _ (ne_eqb at 0 ne)
  walk_over (suc left) wanted at z ne = absurd (omega arith)

  -- a link above n
  pub walk_above : (left wanted at : ℕ) → n < at → walk_fault may next n left wanted at ≡ 11
  unfolding walk_fault
  walk_above zero wanted at h = refuse_if-false (eqb at 0) _ _ (ne_eqb at 0 (λ e. omega arith))
  walk_above (suc left) wanted at h = refuse_if-false (eqb at 0) _ _ (ne_eqb at 0 (λ e. omega arith)) ∙ refuse_if-true (ltb n at) _ _ (lt-ltb n at h)

  module _ (left wanted at : ℕ) (some : 0 < left) (low : at ≡ 0 → ⊥) (high : at ≤ n) where
    walk_turn : walk_fault may next n left wanted at
        ≡ cond (may at) (cond (eqb wanted 1) (end_fault n (left - 1) (get_or next at 0)) (walk_fault may next n (left - 1) (wanted - 1) (get_or next at 0)))
        (walk_fault may next n (left - 1) wanted (get_or next at 0))
    unfolding walk_fault
    walk_turn = go left some
      where
        go : (k : ℕ) → 0 < k → walk_fault may next n k wanted at
            ≡ cond (may at) (cond (eqb wanted 1) (end_fault n (k - 1) (get_or next at 0)) (walk_fault may next n (k - 1) (wanted - 1) (get_or next at 0)))
            (walk_fault may next n (k - 1) wanted (get_or next at 0))
        go zero h = absurd (omega arith)
        go (suc k) h =
            let e : k ≡ suc k - 1 = omega arith in
            refuse_if-false (eqb at 0) _ _ (ne_eqb at 0 low) ∙ refuse_if-false (ltb n at) _ _ (le-ltb n at high)
            ∙ ap (λ (x : ℕ).
            cond (may at) (cond (eqb wanted 1) (end_fault n x (get_or next at 0)) (walk_fault may next n x (wanted - 1) (get_or next at 0)))
            (walk_fault may next n x wanted (get_or next at 0))) e

    -- the last slot that is wanted may be taken
    pub walk_taken : may at ≡ true → wanted ≡ 1 → walk_fault may next n left wanted at ≡ end_fault n (left - 1) (get_or next at 0)
    walk_taken e o = walk_turn ∙ pick_true (may at) _ _ e ∙ pick_true (eqb wanted 1) _ _ (eq-eqb wanted 1 o)

    -- one before it may be taken
    pub walk_on : may at ≡ true → (wanted ≡ 1 → ⊥) → walk_fault may next n left wanted at ≡ walk_fault may next n (left - 1) (wanted - 1) (get_or next at 0)
    walk_on e o = walk_turn ∙ pick_true (may at) _ _ e ∙ pick_false (eqb wanted 1) _ _ (ne_eqb wanted 1 o)

    -- or it is passed over
    pub walk_passed : may at ≡ false → walk_fault may next n left wanted at ≡ walk_fault may next n (left - 1) wanted (get_or next at 0)
    walk_passed e = walk_turn ∙ pick_false (may at) _ _ e

-- ---- no refusal by a narrower test, with fewer slots to be met and more wanted, is none at all

end_fine : (n left link : ℕ) → (link ≡ 0 → ⊥) → link ≤ n → 0 < left → end_fault n left link ≡ 0
unfolding end_fault
end_fine n left link low high some =
    refuse_if-false (eqb link 0) _ _ (ne_eqb link 0 low) ∙ refuse_if-false (ltb n link) _ _ (le-ltb n link high)
    ∙ refuse_if-false (eqb left 0) _ _ (ne_eqb left 0 (λ e. omega arith))

-- a link that a chain has
pub end_good : (n left link : ℕ) → 0 < left → link ≤ n → end_fault n left link ≡ 0
unfolding end_fault
end_good n left link some high = go (eqb link 0) refl
  where
    go : (b : Bool) → eqb link 0 ≡ b → end_fault n left link ≡ 0
    go true q = refuse_if-true (eqb link 0) _ _ q
    go false q = end_fine n left link (eqb-false link 0 q) high some

end_more : (n left more link : ℕ) → left ≤ more → end_fault n left link ≡ 0 → end_fault n more link ≡ 0
unfolding end_fault
end_more n left more link h e = go (eqb link 0) refl
  where
    go : (b : Bool) → eqb link 0 ≡ b → end_fault n more link ≡ 0
    go true q = refuse_if-true (eqb link 0) _ _ q
    go false q =
        let a = refuse_if_zero _ _ _ (sym (refuse_if-false (eqb link 0) _ _ q) ∙ e) (omega arith) in
        let b = refuse_if_zero _ _ _ a.1 (omega arith) in
        end_fine n more link (eqb-false link 0 q) (ltb-false n link a.0) (omega (arith, eqb-false left 0 b.0))

-- the link at which such a walk starts
record Fine (n left at : ℕ) : Type 0 where
  low : at ≡ 0 → ⊥
  high : at ≤ n
  some : 0 < left

-- the slots taken before a test are slots
abbrev Within : (n : ℕ) → List ℕ → Type 0
Within n chosen = (t : ℕ) → In t chosen → Slot n t

module _ (p : ℕ → Bool) (q : List ℕ → ℕ → Bool) (next : List ℕ) (n : ℕ)
    (wider : (chosen : List ℕ) → Within n chosen → (s : ℕ) → p s ≡ true → q chosen s ≡ true) where
  fine : (left wanted at : ℕ) → walk_fault p next n left wanted at ≡ 0 → Fine n left at
  fine left wanted at e =
      record {
        low = λ z. omega (arith, sym e ∙ walk_ended p next n left wanted at z);
        high = within (ltb n at) refl;
        some = more (eqb left 0) refl;
      }
    where
      within : (b : Bool) → ltb n at ≡ b → at ≤ n
      within true h = absurd (omega (arith, sym e ∙ walk_above p next n left wanted at (ltb-true n at h)))
      within false h = ltb-false n at h

      more : (b : Bool) → eqb left 0 ≡ b → 0 < left
      more true h =
          absurd (omega (
            arith,
            sym e ∙ walk_over p next n left wanted at (eqb-true left 0 h)
                (λ z. omega (arith, sym e ∙ walk_ended p next n left wanted at z)),
          ))
      more false h = omega (arith, eqb-false left 0 h)

  -- the walk by the wider test
  abbrev wide : (more fewer prev at : ℕ) → (chosen : List ℕ) → ℕ
  wide more fewer prev at chosen = take_fault (allocation_walk q next n more fewer prev at chosen)

  none_wanted : (left wanted more prev at : ℕ) (chosen : List ℕ) → left ≤ more → walk_fault p next n left wanted at ≡ 0 → wide more 0 prev at chosen ≡ 0
  none_wanted left wanted more prev at chosen h e =
      let f = fine left wanted at e in end-fault q next n more prev at chosen ∙ end_fine n more at f.low f.high (omega (arith, f.some))

  within_more : (at : ℕ) (chosen : List ℕ) → Slot n at → Within n chosen → Within n (at ∷ chosen)
  within_more at chosen s w t (inl e) = rw e s
  within_more at chosen s w t (inr i) = w t i

  pub still_fine : (left more wanted fewer prev at : ℕ) (chosen : List ℕ) → Within n chosen → left ≤ more → 0 < wanted → fewer ≤ wanted
      → walk_fault p next n left wanted at ≡ 0 → wide more fewer prev at chosen ≡ 0
  still_fine zero more wanted fewer prev at chosen w h some less e = absurd (omega (arith, (fine 0 wanted at e).some))
  still_fine (suc left) more wanted zero prev at chosen w h some less e = none_wanted (suc left) wanted more prev at chosen h e
  still_fine (suc left) more wanted (suc fewer) prev at chosen w h some less e =
      let f = fine (suc left) wanted at e in
      take f (p at) refl (q chosen at) refl
      (λ g v d z. still_fine left (more - 1) v g prev (get_or next at 0) (at ∷ chosen) (within_more at chosen (omega (arith, f.low), f.high) w) (omega arith) d
      z)
      (λ z. still_fine left (more - 1) wanted (suc fewer) at (get_or next at 0) chosen w (omega arith) some less z)
    where
      link : ℕ
      link = get_or next at 0

      turn : Fine n (suc left) at → wide more (suc fewer) prev at chosen
          ≡ take_fault (cond (q chosen at) (with_taken at prev (allocation_walk q next n (more - 1) (suc fewer - 1) prev link (at ∷ chosen)))
          (allocation_walk q next n (more - 1) (suc fewer) at link chosen))
      turn f = ap take_fault (take_turn q next n more (suc fewer) prev at chosen (omega arith) (omega (arith, f.low)) f.high (omega arith))

      took : Fine n (suc left) at → q chosen at ≡ true → wide (more - 1) fewer prev link (at ∷ chosen) ≡ 0 → wide more (suc fewer) prev at chosen ≡ 0
      took f b r =
          let d : suc fewer - 1 ≡ fewer = omega arith in
          turn f ∙ ap take_fault (pick_true (q chosen at) _ _ b) ∙ with_fault at prev _
          ∙ ap (λ (v : ℕ). wide (more - 1) v prev link (at ∷ chosen)) d ∙ r

      rest : Fine n (suc left) at → p at ≡ false → walk_fault p next n left wanted link ≡ 0
      rest f x =
          let d : left ≡ suc left - 1 = omega arith in
          ap (λ (k : ℕ). walk_fault p next n k wanted link) d ∙ sym (walk_passed p next n (suc left) wanted at f.some f.low f.high x) ∙ e

      -- the last of the narrower walk
      last : Fine n (suc left) at → p at ≡ true → wanted ≡ 1 → wide more (suc fewer) prev at chosen ≡ 0
      last f x o =
          let d : fewer ≡ 0 = omega (arith, less) in
          took f (wider chosen w at x)
          (ap (λ (v : ℕ). wide (more - 1) v prev link (at ∷ chosen)) d ∙ end-fault q next n (more - 1) prev link (at ∷ chosen)
          ∙ end_more n (suc left - 1) (more - 1) link (omega arith) (sym (walk_taken p next n (suc left) wanted at f.some f.low f.high x o) ∙ e))

      take : Fine n (suc left) at → (a : Bool) → p at ≡ a → (b : Bool) → q chosen at ≡ b
          → ((g v : ℕ) → 0 < v → g ≤ v → walk_fault p next n left v link ≡ 0 → wide (more - 1) g prev link (at ∷ chosen) ≡ 0)
          → (walk_fault p next n left wanted link ≡ 0 → wide (more - 1) (suc fewer) at link chosen ≡ 0)
          → wide more (suc fewer) prev at chosen ≡ 0
      take f true x b y on over = one (eqb wanted 1) refl
        where
          one : (c : Bool) → eqb wanted 1 ≡ c → wide more (suc fewer) prev at chosen ≡ 0
          one true o = last f x (eqb-true wanted 1 o)
          one false o =
              let d : left ≡ suc left - 1 = omega arith in
              took f (wider chosen w at x)
              (on fewer (wanted - 1) (omega (arith, eqb-false wanted 1 o)) (omega arith)
              (ap (λ (k : ℕ). walk_fault p next n k (wanted - 1) link) d
              ∙ sym (walk_on p next n (suc left) wanted at f.some f.low f.high x (eqb-false wanted 1 o)) ∙ e))
      take f false x true y on over = took f y (on fewer wanted some (omega arith) (rest f x))
      take f false x false y on over = turn f ∙ ap take_fault (pick_false (q chosen at) _ _ y) ∙ over (rest f x)

-- ---- the loop of the walk: what is left of it answers for the whole

pub record Walking (may : ℕ → Bool) (next : List ℕ) (n most wanted first at left need : ℕ) : Type 0 where
  pub place : at < 2 ^ 32
  pub some_need : 0 < need
  pub rest : walk_fault may next n left need at ≡ walk_fault may next n most wanted first

module _ (may : ℕ → Bool) (next : List ℕ) (n most wanted first at left need : ℕ) (w : Walking may next n most wanted first at left need) where
  pub at-end : at ≡ 0 → 28 ≡ walk_fault may next n most wanted first
  at-end z = sym (walk_ended may next n left need at z) ∙ w.rest

  pub above : n < at → 11 ≡ walk_fault may next n most wanted first
  above h = sym (walk_above may next n left need at h) ∙ w.rest

  pub over : left ≤ 0 → (at ≡ 0 → ⊥) → 11 ≡ walk_fault may next n most wanted first
  over h ne = sym (walk_over may next n left need at (omega arith) ne) ∙ w.rest

  module _ (some : 0 < left) (low : at ≡ 0 → ⊥) (high : at ≤ n) (b : Bool) (e : b ≡ may at) where
    pub last_here : b ≡ true → need ≡ 1 → (r : ℕ) → r ≡ end_fault n (left - 1) (get_or next at 0) → r ≡ walk_fault may next n most wanted first
    last_here q o r h = h ∙ sym (walk_taken may next n left need at some low high (sym e ∙ q) o) ∙ w.rest

    pub took_one : b ≡ true → (need ≡ 1 → ⊥) → get_or next at 0 < 2 ^ 32
        → Walking may next n most wanted first (get_or next at 0) (left - 1) (need - 1)
    took_one q o h =
        record {
          place = h;
          some_need = omega (arith, o, w.some_need);
          rest = sym (walk_on may next n left need at some low high (sym e ∙ q) o) ∙ w.rest;
        }

    pub on : b ≡ false → get_or next at 0 < 2 ^ 32 → Walking may next n most wanted first (get_or next at 0) (left - 1) need
    on q h =
        record {
          place = h;
          some_need = w.some_need;
          rest = sym (walk_passed may next n left need at some low high (sym e ∙ q)) ∙ w.rest;
        }
