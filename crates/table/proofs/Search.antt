-- What a search of a chain finds. Assumes nothing.
use mathlib.Core.Path.{◌≡◌, refl, sym, ap, ◌∙◌}
use mathlib.Core.Bool.{Bool, true, false, cond}
use mathlib.Core.Logic.{inl, inr, ⊎_elim}
use mathlib.Core.List.{List, [], ◌∷◌}
use Prim.Native.Nat.{ℕ}
use lib.Dec.{eqb}
use borrow.Author.Tests.{eqb-true, eqb-false}
use Rattle.prelude.specs.Members.{In, Slot}
use Rattle.layout.specs.Content.{Table}
use Rattle.table.specs.Table.{key_in, decider, live}
use Rattle.table.proofs.defs.Write.{holder}
use Rattle.table.proofs.defs.Chains.{Chains}
use Rattle.table.specs.Order.{first_with}
use Rattle.prelude.proofs.Choice.{true-false}
use Rattle.table.proofs.OneSlot.{weight_key}
use Rattle.table.proofs.Map.{decider_weight, live_key}
use Rattle.table.proofs.Held.{Held, held_or, holder_held, unheld, held, holder_none}

module _ (f : Table) (n : ℕ) (head : ℕ → ℕ) (ch : ℕ → List ℕ) (cs : Chains f n head ch) where
  -- a slot of the chain with key k is the one that decides k
  pub chain_decider : (k t i : ℕ) → In t (ch i) → key_in (f t) ≡ k → decider f n k ≡ t
  chain_decider k t i j e = ap (decider f n) (sym e) ∙ live_key f n t (cs.alive i t j)

  -- a held key's slot is in its chain
  pub chain_has : (k : ℕ) → Slot n (decider f n k) → live f n (decider f n k) ≡ true → In (decider f n k) (ch (head k))
  chain_has k i e = let h = cs.all (decider f n k) i e in rw (weight_key k (f (decider f n k)) (decider_weight f n k (decider f n k) i refl)) at h

pub data Sought (f : Table) (k : ℕ) (l : List ℕ) (t : ℕ) : Type 0 where
  miss : t ≡ 0 → ((x : ℕ) → In x l → key_in (f x) ≡ k → ⊥) → Sought f k l t
  hit : In t l → key_in (f t) ≡ k → Sought f k l t

pub sought : (f : Table) (k : ℕ) (l : List ℕ) → Sought f k l (first_with f k l)
unfolding first_with
sought f k [] = miss refl (λ x i e. i)
sought f k (t ∷ l) = go (eqb (key_in (f t)) k) refl (sought f k l)
  where
    go : (b : Bool) → eqb (key_in (f t)) k ≡ b → Sought f k l (first_with f k l) → Sought f k (t ∷ l) (cond b t (first_with f k l))
    go true e ih = hit (inl refl) (eqb-true (key_in (f t)) k e)
    go false e (miss z h) = miss z (λ x i q. ⊎_elim (λ d. eqb-false (key_in (f t)) k e (sym (ap (λ (y : ℕ). key_in (f y)) d) ∙ q)) (λ j. h x j q) i)
    go false e (hit i q) = hit (inr i) q

-- THE SEARCH: in the key's chain it finds the holder
pub first_with_holder : (f : Table) (n : ℕ) (head : ℕ → ℕ) (ch : ℕ → List ℕ) → Chains f n head ch → (k : ℕ) → first_with f k (ch (head k)) ≡ holder f n k
first_with_holder f n head ch cs k = go (sought f k (ch (head k))) (held_or f n k)
  where
    go : Sought f k (ch (head k)) (first_with f k (ch (head k))) → Held f n k → first_with f k (ch (head k)) ≡ holder f n k
    go (miss z h) (held v i e m) =
        absurd (h (decider f n k) (chain_has f n head ch cs k i e) (weight_key k (f (decider f n k)) (decider_weight f n k (decider f n k) i refl)))
    go (miss z h) (unheld a m) = z ∙ sym (holder_none f n k a)
    go (hit i q) (held v j e m) = sym (chain_decider f n head ch cs k (first_with f k (ch (head k))) (head k) i q) ∙ sym (holder_held f n k e)
    go (hit i q) (unheld a m) =
        absurd (true-false (cs.alive (head k) (first_with f k (ch (head k))) i)
        (a (first_with f k (ch (head k))) (cs.slot (head k) (first_with f k (ch (head k))) i)
        (chain_decider f n head ch cs k (first_with f k (ch (head k))) (head k) i q)))
