-- A key that is held, and the slot that holds it. Assumes nothing.
use mathlib.Core.Path.{◌≡◌, refl, sym, ap, ◌∙◌}
use mathlib.Core.Bool.{Bool, true, false, cond}
use mathlib.Core.Option.{some, none}
use mathlib.Core.List.{List}
use Prim.Native.Nat.{ℕ, ◌<◌}
use native.Mathlib.Omega.{arith}
use Rattle.layout.specs.Content.{Table}
use Rattle.prelude.specs.Members.{Slot}
use Rattle.prelude.proofs.Choice.{true-false}
use Rattle.prelude.proofs.Most.{First, nowhere, there}
use Rattle.table.specs.Table.{decider, live, map_of, value_at, value_in, rank_for_key, is_held}
use Rattle.table.proofs.defs.Write.{holder}
use Rattle.table.proofs.Map.{decider_is, is_live, lives, live_remove, decider_weight, live_is, Live}
use Rattle.table.proofs.OneSlot.{Says, puts, value-at, removes, says, one-key, weight_put}

pub data Held (f : Table) (n k : ℕ) : Type 0 where
  held : (v : List ℕ) → Slot n (decider f n k) → live f n (decider f n k) ≡ true → map_of f n k ≡ some v → Held f n k
  unheld : ((t : ℕ) → Slot n t → decider f n k ≡ t → live f n t ≡ false) → map_of f n k ≡ none → Held f n k

pub held_or : (f : Table) (n k : ℕ) → Held f n k
unfolding map_of value_at value_in
held_or f n k = go (decider_is f n k)
  where
    at : Slot n (decider f n k) → Says k (f (decider f n k)) → Held f n k
    at i (puts w v e) = held v i (is_live f n (decider f n k) (lives w k v e refl)) (value-at f n (decider f n k) i ∙ ap value_in e)
    at i (removes w e) =
        unheld (λ t j q. live_remove f n t w k (ap f (sym q) ∙ e)) (value-at f n (decider f n k) i ∙ ap value_in e)

    go : First (λ t. rank_for_key k (f t)) n (decider f n k) → Held f n k
    go (nowhere z h) = unheld (λ t j q. absurd (omega arith)) (ap (value_at f) z)
    go (there i p h b) = at i (says k (f (decider f n k)) p)

pub holder_held : (f : Table) (n k : ℕ) → live f n (decider f n k) ≡ true → holder f n k ≡ decider f n k
unfolding holder
holder_held f n k e = ap (λ (x : Bool). cond x (decider f n k) 0) e

pub holder_none : (f : Table) (n k : ℕ) → ((t : ℕ) → Slot n t → decider f n k ≡ t → live f n t ≡ false) → holder f n k ≡ 0
unfolding holder
holder_none f n k h = go (decider_is f n k)
  where
    zeros : (x : Bool) (b : ℕ) → b ≡ 0 → cond x b 0 ≡ 0
    zeros true b e = e
    zeros false b e = refl

    go : First (λ t. rank_for_key k (f t)) n (decider f n k) → holder f n k ≡ 0
    go (nowhere z a) = zeros (live f n (decider f n k)) (decider f n k) z
    go (there i p a b) = ap (λ (x : Bool). cond x (decider f n k) 0) (h (decider f n k) i refl)

-- the holder gives the map its value, and there is none exactly where the key is not held
pub holder_value : (f : Table) (n k : ℕ) → value_at f (holder f n k) ≡ map_of f n k
unfolding map_of value_at
holder_value f n k = go (held_or f n k)
  where
    go : Held f n k → value_at f (holder f n k) ≡ map_of f n k
    go (held v i e m) = ap (value_at f) (holder_held f n k e)
    go (unheld a m) = ap (value_at f) (holder_none f n k a) ∙ sym m

-- a held key's slot is live and has a record of it
pub data Holder (f : Table) (n k : ℕ) : Type 0 where
  holder_is : Slot n (holder f n k) → live f n (holder f n k) ≡ true → 0 < rank_for_key k (f (holder f n k)) → Holder f n k

pub is_holder : (f : Table) (n k : ℕ) → 0 < holder f n k → Holder f n k
is_holder f n k p = go (held_or f n k)
  where
    go : Held f n k → Holder f n k
    go (unheld h m) = absurd (omega (arith, holder_none f n k h))
    go (held v i e m) =
        let q = holder_held f n k e in
        holder_is (rw q i) (ap (live f n) q ∙ e) (rw q (decider_weight f n k (decider f n k) i refl))

-- and a live slot with a record of k is k's holder
pub live-holder : (f : Table) (n k t : ℕ) → Slot n t → live f n t ≡ true → 0 < rank_for_key k (f t) → holder f n k ≡ t
live-holder f n k t i e p = go (live_is f n t e)
  where
    go : Live f n t → holder f n k ≡ t
    go (lives u c v q d) =
        let z : decider f n k ≡ t = ap (decider f n) (sym (one-key c k (f t) (omega (arith, ap (rank_for_key c) q, weight_put u c v)) p)) ∙ d in
        holder_held f n k (ap (live f n) z ∙ e) ∙ z

-- a key that the map holds has a holder
pub held_holder : (f : Table) (n k : ℕ) → is_held (map_of f n k) ≡ true → 0 < holder f n k
unfolding is_held
held_holder f n k e = go (held_or f n k)
  where
    go : Held f n k → 0 < holder f n k
    go (held v i l m) = omega (arith, holder_held f n k l)
    go (unheld a m) = absurd (true-false e (ap is_held m))
