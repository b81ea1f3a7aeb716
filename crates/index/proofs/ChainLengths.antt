-- How long a chain can be, and that every slot stays in some chain. Assumes nothing.
use mathlib.Core.Path.{◌≡◌, refl, sym, ◌∙◌}
use mathlib.Core.Logic.{inl, inr}
use mathlib.Core.List.{List, [], ◌∷◌}
use Prim.Native.Nat.{ℕ, ◌+◌, ◌<◌, ◌≤◌}
use native.Mathlib.Omega.{arith}
use lib.ListN.{length, get_or}
use Rattle.index.specs.Index.{Chain, reuse, head, Index, ahead}
use Rattle.prelude.specs.Members.{In, Once, slot_numbers}
use Rattle.index.specs.Linked.{Run, Owner, Entry, Disjoint, Linked}
use Rattle.prelude.proofs.Paths.{Pos, self}
use Rattle.index.proofs.Owners.{of-of, reuse_apart}
use Rattle.index.proofs.Links.{ahead-next}
use Rattle.prelude.proofs.Lists.{no_longer, in_slots}
use Rattle.prelude.proofs.Fills.{length_slots}

-- a run that ends has no slot twice
pub run_once : (f : ℕ → ℕ) (a : ℕ) (xs : List ℕ) → Pos xs → Run f a xs 0 → Once xs
run_once f a [] p r = tt
run_once f a (x ∷ xs) p r = (self f x xs (λ y m. p y (inr m)) r.1, run_once f (f x) xs (λ y m. p y (inr m)) r.1)

-- a list of different numbers from 1 to n has at most n elements
pub at_most : (n : ℕ) (l : List ℕ) → Once l → ((x : ℕ) → In x l → (0 < x) × (x ≤ n)) → length l ≤ n
at_most n l a h = omega (arith, no_longer l (slot_numbers n) a (λ x m. in_slots n x (let k = h x m in (k.0, k.1))), length_slots n)

-- while reuse has a slot, no head's chain has all
pub chain_short : (i : Index) (owner : ℕ → Owner) (chains : Chain → List ℕ) (n h f : ℕ) → Disjoint i owner chains
    → length i.next ≡ n + 1 → In f (chains reuse)
    → length (chains (head h)) < n
chain_short i owner chains n h f w e m =
    at_most n (f ∷ chains (head h)) (
      alone,
      run_once (ahead i (head h)) _ (chains (head h))
          (λ y k. (w.slot (head h) y (w.owned.mine (head h) y k)).low) (w.runs (head h)),
    ) inside
  where
    alone : In f (chains (head h)) → ⊥
    alone k = reuse_apart h (of-of reuse (head h) (sym (w.owned.mine reuse f m) ∙ w.owned.mine (head h) f k))

    bounds : (c : Chain) (x : ℕ) → In x (chains c) → (0 < x) × (x ≤ n)
    bounds c x k = let s = w.slot c x (w.owned.mine c x k) in (s.low, omega (arith, s.high))

    inside : (x : ℕ) → In x (f ∷ chains (head h)) → (0 < x) × (x ≤ n)
    inside x (inl d) = rw d (bounds reuse f m)
    inside x (inr k) = bounds (head h) x k

-- a well-formed index's chains, as a reader has them
pub run_linked : (i : Index) (c : Chain) (a : ℕ) (xs : List ℕ) → ((x : ℕ) → In x xs → Entry i x) → Run (ahead i c) a xs 0
    → Linked i.next a xs
run_linked i c a [] h r = r
run_linked i c a (x ∷ xs) h r =
    let s = h x (inl refl) in
    (r.0, s.low, s.high, run_linked i c (get_or i.next x 0) xs (λ y m. h y (inr m)) (rw (ahead-next i c x s.low) at r.1))

pub formed_linked : (i : Index) (owner : ℕ → Owner) (chains : Chain → List ℕ) (c : Chain) → Disjoint i owner chains
    → Linked i.next (ahead i c 0) (chains c)
formed_linked i owner chains c w = run_linked i c (ahead i c 0) (chains c) (λ x m. w.slot c x (w.owned.mine c x m)) (w.runs c)
