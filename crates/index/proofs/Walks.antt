-- Following a chain: one law for each way out of a turn of `find_key`, and what a search finds lies inside the index. Assumes nothing.
use mathlib.Core.Path.{◌≡◌, refl, sym, ap, ap₂, ◌∙◌, subst}
use mathlib.Core.Bool.{Bool, true, false, cond}
use mathlib.Core.List.{List}
use Prim.Native.Nat.{ℕ, zero, suc, ◌+◌, ◌-◌, ◌^◌, ◌≤◌, ◌<◌}
use native.Mathlib.Omega.{arith}
use lib.Dec.{eqb, ltb}
use lib.ListN.{length, get_or}
use borrow.Author.Tests.{lt-ltb, le-ltb, eq-eqb, ne_eqb, ltb-false, eqb-false}
use Rattle.prelude.proofs.Choice.{pick_true, pick_false}
use Rattle.layout.specs.Size.{slots_in}
use Rattle.index.specs.Index.{head_of}
use Rattle.index.specs.Walk.{walk, slot_key, search}
use Rattle.index.specs.declared.Found.{Found}
use Rattle.index.specs.declared.Found.TheVariants.{At, Missing, BadChain}

-- before a turn: what is left of the walk is the whole search
pub record Going (l : ℕ) (image heads next : List ℕ) (n key at prev compared left : ℕ) : Type 0 where
  pub at_fits : at < 2 ^ 32
  pub count : compared + left ≡ n
  pub rest : walk (slot_key l image) next n key left compared prev at ≡ search l image heads next key

-- h is the key's head
pub begins : (l : ℕ) (image heads next : List ℕ) (n key h : ℕ) → slots_in image ≡ n → h ≡ head_of key (length heads)
    → get_or heads h 0 < 2 ^ 32 → Going l image heads next n key (get_or heads h 0) 0 0 n
unfolding search
begins l image heads next n key h e eh f =
    record {
      at_fits = f;
      count = omega arith;
      rest = ap₂ (λ (m k : ℕ). walk (slot_key l image) next m key m 0 0 (get_or heads k 0)) (sym e) eh;
    }

-- the bound is used up
pub out : (l : ℕ) (image heads next : List ℕ) (n key at prev compared left : ℕ)
    → Going l image heads next n key at prev compared left → left ≤ 0 → BadChain ≡ search l image heads next key
unfolding walk
out l image heads next n key at prev compared left g h =
    let e : left ≡ 0 = omega arith in
    sym (ap (λ (k : ℕ). walk (slot_key l image) next n key k compared prev at) e) ∙ g.rest

module _
    (l : ℕ) (image heads next : List ℕ) (n key at prev compared left : ℕ)
    (g : Going l image heads next n key at prev compared left) (more : 0 < left) where
  turn :
      search l image heads next key ≡
      cond (eqb at 0) (Missing prev compared)
      (cond (ltb n at) BadChain
      (cond (eqb (slot_key l image at) key) (At at prev (compared + 1))
      (walk (slot_key l image) next n key (left - 1) (compared + 1) at (get_or next at 0))))
  unfolding walk
  turn =
      let e : left ≡ suc (left - 1) = omega arith in
      sym g.rest ∙ ap (λ (k : ℕ). walk (slot_key l image) next n key k compared prev at) e

  -- the chain's end
  pub at-end : at ≡ 0 → Missing prev compared ≡ search l image heads next key
  at-end e = sym (turn ∙ pick_true (eqb at 0) _ _ (eq-eqb at 0 e))

  module _ (z : at ≡ 0 → ⊥) where
    -- a link above n
    pub past : n < at → BadChain ≡ search l image heads next key
    past h = sym (turn ∙ pick_false (eqb at 0) _ _ (ne_eqb at 0 z) ∙ pick_true (ltb n at) _ _ (lt-ltb n at h))

    -- `same` tells whether the slot has the key
    module _ (h : at ≤ n) (same : Bool) (es : same ≡ eqb (slot_key l image at) key) where
      inner :
          search l image heads next key ≡
          cond (eqb (slot_key l image at) key) (At at prev (compared + 1))
          (walk (slot_key l image) next n key (left - 1) (compared + 1) at (get_or next at 0))
      inner = turn ∙ pick_false (eqb at 0) _ _ (ne_eqb at 0 z) ∙ pick_false (ltb n at) _ _ (le-ltb n at h)

      -- the slot with the key
      pub here : same ≡ true → At at prev (compared + 1) ≡ search l image heads next key
      here e = sym (inner ∙ pick_true (eqb (slot_key l image at) key) _ _ (sym es ∙ e))

      -- another slot
      pub on : same ≡ false → get_or next at 0 < 2 ^ 32 → Going l image heads next n key (get_or next at 0) at (compared + 1) (left - 1)
      on e f =
          record {
            at_fits = f;
            count = omega (arith, g.count, more);
            rest = sym (inner ∙ pick_false (eqb (slot_key l image at) key) _ _ (sym es ∙ e));
          }

-- ---- what a search finds lies inside the index

-- what is found lies inside an index of n slots
abbrev FoundWithin : ℕ → Found → Type 0
FoundWithin n (At slot prev compared) = (0 < slot) × (slot ≤ n) × (prev ≤ n)
FoundWithin n (Missing prev compared) = prev ≤ n
FoundWithin n BadChain = Unit

either_way : (n : ℕ) (b : Bool) (x y : Found) → (b ≡ true → FoundWithin n x) → (b ≡ false → FoundWithin n y) → FoundWithin n (cond b x y)
either_way n true x y f g = f refl
either_way n false x y f g = g refl

walk_within : (keys : ℕ → ℕ) (next : List ℕ) (n key left compared prev at : ℕ) → prev ≤ n
    → FoundWithin n (walk keys next n key left compared prev at)
unfolding walk
walk_within keys next n key zero compared prev at h = tt
walk_within keys next n key (suc left) compared prev at h =
    either_way n (eqb at 0) _ _ (λ e. h)
    (λ z.
    either_way n (ltb n at) _ _ (λ e. tt)
    (λ e.
    let low : 0 < at = omega (arith, eqb-false at 0 z) in
    let high : at ≤ n = ltb-false n at e in
    either_way n (eqb (keys at) key) _ _ (λ k. (low, high, h))
    (λ k. walk_within keys next n key left (compared + 1) at (get_or next at 0) high)))

module _ (l : ℕ) (image heads next : List ℕ) (n key : ℕ) (e : slots_in image ≡ n) where
  within : FoundWithin n (search l image heads next key)
  unfolding search
  within = rw e (walk_within (slot_key l image) next n key n 0 0 _ (omega arith))

  pub at_inside : (slot prev compared : ℕ) → search l image heads next key ≡ At slot prev compared
      → (0 < slot) × (slot ≤ n) × (prev ≤ n)
  at_inside slot prev compared f = subst (FoundWithin n) f within

  pub absent_inside : (prev compared : ℕ) → search l image heads next key ≡ Missing prev compared → prev ≤ n
  absent_inside prev compared f = subst (FoundWithin n) f within
