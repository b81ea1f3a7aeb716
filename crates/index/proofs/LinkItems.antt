-- Each key's change of a basket keeps a well-formed index well-formed: the slot before it is found in its chain. Assumes nothing.
use mathlib.Core.Path.{◌≡◌, refl, ap}
use mathlib.Core.Logic.{inl, inr}
use mathlib.Core.List.{List, [], ◌∷◌, ◌++◌}
use Prim.Native.Nat.{ℕ, zero, suc, ◌+◌, ◌<◌, ◌≤◌}
use native.Mathlib.Omega.{arith}
use lib.ListN.{length, get_or, length-append}
use borrow.Author.Tests.{eq-eqb, ne_eqb, le-ltb}
use Rattle.prelude.specs.Members.{In}
use Rattle.prelude.proofs.Lists.{in_left}
use Rattle.index.specs.Index.{Chain, reuse, head, Index, start, ahead}
use Rattle.index.specs.Linked.{Run, end_of, Owner, free, of, Entry, Disjoint, WellFormed}
use Rattle.index.specs.Basket.{slot_before, before_in, link_by}
use Rattle.index.specs.declared.Action.TheVariants.{Write, Remove}
use Rattle.index.specs.declared.Mode.TheVariants.{Insert, Replace}
use Rattle.index.proofs.defs.Linked.{give, with_chain}
use Rattle.prelude.proofs.Paths.{run_alike, stands_once}
use Rattle.index.proofs.Links.{ahead-next}
use Rattle.index.proofs.Relinks.{part_pos, part_run}
use Rattle.index.proofs.ChainLengths.{at_most, run_once}
use Rattle.index.proofs.CallWrites.{formed_insert_at, formed_replace_at, formed_remove_at}

-- ---- the slot before a target

-- from `at` go the slots xs and then the target
before_run : (next : List ℕ) (n : ℕ) (xs : List ℕ) (left target prev at : ℕ) → Run (λ x. get_or next x 0) at xs target
    → ((x : ℕ) → In x xs → (0 < x) × (x ≤ n) × (x ≡ target → ⊥)) → length xs ≤ left → slot_before next n left target prev at ≡ end_of prev xs
unfolding slot_before
before_run next n [] zero target prev at r h k = refl
before_run next n [] (suc left) target prev at r h k = rw (eq-eqb at target r)
before_run next n (x ∷ xs) zero target prev at r h k = absurd (omega arith)
before_run next n (x ∷ xs) (suc left) target prev at r h k =
    let q = h x (inl refl) in
    rw (r.0, ne_eqb x target q.2, ne_eqb x 0 (λ e. omega (arith, q.0)), le-ltb n x q.1)
    (before_run next n xs left target x (get_or next x 0) r.1 (λ y m. h y (inr m)) (omega arith))

-- a run up to one of its slots
run_front : (f : ℕ → ℕ) (a : ℕ) (xs : List ℕ) (s : ℕ) (ys : List ℕ) (v : ℕ) → Run f a (xs ++ s ∷ ys) v → Run f a xs s
run_front f a [] s ys v r = r.0
run_front f a (x ∷ xs) s ys v r = (r.0, run_front f (f x) xs s ys v r.1)

module _
    (i : Index) (owner : ℕ → Owner) (chains : Chain → List ℕ) (n h : ℕ) (w : Disjoint i owner chains) (z : length i.next ≡ n + 1) where
  bounds : (x : ℕ) → In x (chains (head h)) → (0 < x) × (x ≤ n)
  bounds x m = let s = w.slot (head h) x (w.owned.mine (head h) x m) in (s.low, omega (arith, s.high))

  few : length (chains (head h)) ≤ n
  few =
      at_most n (chains (head h)) (run_once (ahead i (head h)) _ (chains (head h)) (λ y m. (bounds y m).0) (w.runs (head h))) bounds

  -- in the chain of head h
  before-in : (xs : List ℕ) (target : ℕ) → Run (ahead i (head h)) (ahead i (head h) 0) xs target
      → ((x : ℕ) → In x xs → In x (chains (head h))) → ((x : ℕ) → In x xs → x ≡ target → ⊥) → length xs ≤ n
      → before_in i n h target ≡ end_of 0 xs
  unfolding before_in ahead start
  before-in xs target r sub ne k =
      before_run i.next n xs n target 0 (get_or i.heads h 0)
      (run_alike (ahead i (head h)) (λ x. get_or i.next x 0) xs _ _ target refl (λ y m. ahead-next i (head h) y (bounds y (sub y m)).0) r)
      (λ x m. let q = bounds x (sub x m) in (q.0, q.1, ne x m)) k

  -- the chain's end
  pub before_end : before_in i n h 0 ≡ end_of 0 (chains (head h))
  before_end = before-in (chains (head h)) 0 (w.runs (head h)) (λ x m. m) (λ x m e. omega (arith, (bounds x m).0)) few

  -- a slot of the chain, which does not stand before itself
  pub before_slot : (xs : List ℕ) (old : ℕ) (ys : List ℕ) → chains (head h) ≡ xs ++ old ∷ ys → before_in i n h old ≡ end_of 0 xs
  before_slot xs old ys e =
      before-in xs old (run_front (ahead i (head h)) (ahead i (head h) 0) xs old ys 0 (rw e at (w.runs (head h))))
      (λ x m. rw e (in_left x xs (old ∷ ys) m))
      (λ x m q. stands_once (ahead i (head h)) 0 xs old ys (part_pos _ _ _ w (head h) xs (old ∷ ys) e) (part_run _ _ _ w (head h) xs (old ∷ ys) e)
      (in_left old xs ys (rw q at m)))
      (omega (arith, few, ap (λ (l : List ℕ). length l) e, length-append xs (old ∷ ys)))

-- ---- the three changes

module _
    (i : Index) (owner : ℕ → Owner) (chains : Chain → List ℕ) (n h s : ℕ) (g : WellFormed i owner chains) (z : length i.next ≡ n + 1)
    (t : Entry i s) (f : owner s ≡ free) where
  pub formed_insert_by : (old : ℕ) → h < length i.heads
      → WellFormed (link_by n i (Write Insert) h old s) (give owner s (of (head h))) (with_chain chains (head h) (chains (head h) ++ s ∷ []))
  unfolding link_by
  formed_insert_by old a = formed_insert_at _ _ _ h _ s g t f a (before_end i owner chains n h g.disjoint z)

  module _ (xs : List ℕ) (old : ℕ) (ys : List ℕ) (d : chains (head h) ≡ xs ++ old ∷ ys) where
    pub formed_replace_by : WellFormed (link_by n i (Write Replace) h old s) (give (give owner s (of (head h))) old (of reuse))
        (with_chain (with_chain chains reuse (chains reuse ++ old ∷ [])) (head h) (xs ++ s ∷ ys))
    unfolding link_by
    formed_replace_by = formed_replace_at _ _ _ h _ s g t f xs old ys d (before_slot i owner chains n h g.disjoint z xs old ys d)

    pub formed_remove_by : WellFormed (link_by n i Remove h old s) (give (give owner s (of reuse)) old (of reuse))
        (with_chain (with_chain chains reuse (chains reuse ++ old ∷ s ∷ [])) (head h) (xs ++ ys))
    unfolding link_by
    formed_remove_by = formed_remove_at _ _ _ h _ s g t f xs old ys d (before_slot i owner chains n h g.disjoint z xs old ys d)
