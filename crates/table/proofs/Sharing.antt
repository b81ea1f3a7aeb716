-- The keys of the slots of a head's chain are the keys that share the head. Assumes nothing.
use mathlib.Core.Path.{◌≡◌, refl, sym, ap, ◌∙◌}
use mathlib.Core.Bool.{Bool, true, false, cond}
use mathlib.Core.Logic.{inl, inr}
use mathlib.Core.Option.{Option, some, none}
use mathlib.Core.List.{List, [], ◌∷◌}
use Prim.Native.Nat.{ℕ, suc}
use lib.Dec.{eqb}
use lib.ListN.{length}
use borrow.Author.Tests.{eqb-true, eq-eqb}
use native.Mathlib.Omega.{arith}
use Rattle.prelude.specs.Members.{In, Once, Slot}
use Rattle.prelude.proofs.Choice.{pick_true, true-false}
use Rattle.layout.specs.Content.{Table}
use Rattle.table.specs.Table.{key_in, rank_for_key, decider, map_of, live}
use Rattle.prelude.specs.Keys.{Holds, holds, Keys, sharing}
use Rattle.table.proofs.defs.Chains.{Chains}
use Rattle.table.proofs.defs.Keys.{keys_of}
use Rattle.table.proofs.Map.{decider_weight, lives, live_is, Live, live_key}
use Rattle.prelude.proofs.Keys.{some-none}
use Rattle.table.proofs.Held.{Held, held_or, unheld, held}
use Rattle.table.proofs.OneSlot.{one-key, weight_put}

-- the slot that decides a held key has that key
pub decider_own : (f : Table) (n k : ℕ) → Slot n (decider f n k) → live f n (decider f n k) ≡ true → key_in (f (decider f n k)) ≡ k
unfolding key_in
decider_own f n k i e = go (live_is f n (decider f n k) e)
  where
    go : Live f n (decider f n k) → key_in (f (decider f n k)) ≡ k
    go (lives w j v q b) =
        ap key_in q ∙ one-key j k (f (decider f n k)) (omega (arith, ap (rank_for_key j) q, weight_put w j v)) (decider_weight f n k (decider f n k) i refl)

pub keys_length : (f : Table) (ts : List ℕ) → length (keys_of f ts) ≡ length ts
unfolding keys_of
keys_length f [] = refl
keys_length f (t ∷ ts) = ap suc (keys_length f ts)

keys_from : (f : Table) (ts : List ℕ) (k : ℕ) → In k (keys_of f ts) → (t : ℕ) × In t ts × (key_in (f t) ≡ k)
unfolding keys_of
keys_from f [] k i = absurd i
keys_from f (t ∷ ts) k (inl e) = (t, inl refl, sym e)
keys_from f (t ∷ ts) k (inr i) = let r = keys_from f ts k i in (r.0, inr r.1, r.2)

in_keys : (f : Table) (ts : List ℕ) (t : ℕ) → In t ts → In (key_in (f t)) (keys_of f ts)
unfolding keys_of
in_keys f [] x x'' = elim x'' [ ]
in_keys f (t ∷ ts) x (inl e) = inl (ap (λ (y : ℕ). key_in (f y)) e)
in_keys f (t ∷ ts) x (inr i) = inr (in_keys f ts x i)

keys_once : (f : Table) (n : ℕ) (ts : List ℕ) → ((t : ℕ) → In t ts → live f n t ≡ true) → Once ts → Once (keys_of f ts)
unfolding keys_of
keys_once f n [] alive o = tt
keys_once f n (t ∷ ts) alive o =
    ((λ i. alone (keys_from f ts (key_in (f t)) i)), keys_once f n ts (λ x i. alive x (inr i)) o.1)
  where
    -- a live slot decides its key, so two live slots have different keys
    alone : (x : ℕ) × In x ts × (key_in (f x) ≡ key_in (f t)) → ⊥
    alone r =
        let same : r.0 ≡ t = sym (live_key f n r.0 (alive r.0 (inr r.1))) ∙ ap (decider f n) r.2 ∙ live_key f n t (alive t (inl refl)) in
        o.0 (rw same at r.1)

module _ (f : Table) (n : ℕ) (head : ℕ → ℕ) (ch : ℕ → List ℕ) (cs : Chains f n head ch) (m : ℕ → Option (List ℕ))
    (same : (k : ℕ) → map_of f n k ≡ m k) (h : ℕ) where
  -- a slot of the chain gives a key of the head that the map holds
  chain_held : (k t : ℕ) → In t (ch h) → key_in (f t) ≡ k → Holds (sharing head h m) k
  unfolding sharing
  chain_held k t i e = go (held_or f n k)
    where
      decides : decider f n k ≡ t
      decides = ap (decider f n) (sym e) ∙ live_key f n t (cs.alive h t i)

      in_head : head k ≡ h
      in_head = ap head (sym e) ∙ cs.in_head h t i

      go : Held f n k → Holds (sharing head h m) k
      go (held v j a q) = holds v (pick_true (eqb (head k) h) _ _ (eq-eqb (head k) h in_head) ∙ sym (same k) ∙ q)
      go (unheld a q) = absurd (true-false (cs.alive h t i) (a t (cs.slot h t i) decides))

  -- and every such key comes from one
  in_chain : (k : ℕ) → Holds (sharing head h m) k → In k (keys_of f (ch h))
  unfolding sharing
  in_chain k (holds v e) = go (eqb (head k) h) refl (held_or f n k) e
    where
      go : (b : Bool) → eqb (head k) h ≡ b → Held f n k → cond b (m k) none ≡ some v → In k (keys_of f (ch h))
      go true d (held u j a q) r =
          let own = decider_own f n k j a in
          let chain : head (key_in (f (decider f n k))) ≡ h = ap head own ∙ eqb-true (head k) h d in
          let i : In (decider f n k) (ch h) = rw chain at (cs.all (decider f n k) j a) in
          rw own at (in_keys f (ch h) (decider f n k) i)
      go true d (unheld a q) r = absurd (some-none (same k ∙ r) q)
      go false d hd r = absurd (some-none r refl)

  -- THE KEYS OF A CHAIN are the held keys that share its head
  pub chain_keys : Keys (sharing head h m) (keys_of f (ch h))
  chain_keys =
      record {
        once = keys_once f n (ch h) (cs.alive h) (cs.once h);
        held = λ k i. let r = keys_from f (ch h) k i in chain_held k r.0 r.1 r.2;
        all = in_chain;
      }
