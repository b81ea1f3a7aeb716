-- The walk of the reuse chain is the taking from the list of its slots. Assumes nothing.
use mathlib.Core.Path.{◌≡◌, refl, sym, ap, ◌∙◌}
use mathlib.Core.Bool.{Bool, true, false, cond}
use mathlib.Core.List.{List, [], ◌∷◌}
use Prim.Native.Nat.{ℕ, zero, suc, ◌+◌, ◌-◌, ◌≤◌}
use native.Mathlib.Omega.{arith}
use lib.Dec.{eqb, ltb, leb-suc-suc}
use lib.ListN.{length, get_or, take}
use borrow.Author.Tests.{eq-eqb, ne_eqb, lt-ltb, le-ltb}
use Rattle.prelude.specs.Refusal.{refuse_if}
use Rattle.prelude.specs.Filter.{filter}
use Rattle.index.specs.Index.{Index, Chain, reuse, start, ahead}
use Rattle.index.specs.Linked.{Linked, ChainsPartition}
use Rattle.index.specs.Allocation.{Allocation, taken, too_few, bad_link, with_taken, at_end, allocation_walk, allocate_from, link_fault, few_fault}
use Rattle.index.specs.Basket.{taken_slots}
use Rattle.index.proofs.defs.TakenIn.{takes_in, taken_in}
use Rattle.index.proofs.ChainLengths.{at_most, formed_linked}
use Rattle.index.proofs.Sits.{sits_in, sits_once}

-- ---- the list

-- one more may be taken and is
more : (may : ℕ → Bool) (prev wanted x : ℕ) (xs : List ℕ) → may x ≡ true
    → with_taken x prev (taken_in may prev wanted xs) ≡ taken_in may prev (suc wanted) (x ∷ xs)
unfolding taken_in takes_in filter with_taken
more may prev wanted x xs e = rw (e, leb-suc-suc (suc (length (filter may xs))) wanted) (go (ltb (length (filter may xs)) wanted))
  where
    go : (b : Bool)
        → with_taken x prev (cond b too_few (taken (takes_in may prev wanted xs)))
        ≡ cond b too_few (taken (record { slot = x; prev = prev } ∷ takes_in may prev wanted xs))
    go true = refl
    go false = refl

-- one that may not be is passed
pass : (may : ℕ → Bool) (prev wanted x : ℕ) (xs : List ℕ) → may x ≡ false
    → taken_in may x (suc wanted) xs ≡ taken_in may prev (suc wanted) (x ∷ xs)
unfolding taken_in takes_in filter
pass may prev wanted x xs e = rw e refl

-- none is wanted
enough : (may : ℕ → Bool) (prev : ℕ) (xs : List ℕ) → taken_in may prev 0 xs ≡ taken []
unfolding taken_in takes_in
enough may prev xs = rw (le-ltb (length (filter may xs)) 0 (omega arith))

-- the end of the list
ended : (may : ℕ → Bool) (prev wanted : ℕ) → at_end wanted ≡ taken_in may prev wanted []
unfolding at_end taken_in takes_in filter
ended may prev zero = refl
ended may prev (suc wanted) = rw (ne_eqb (suc wanted) 0 (λ e. omega arith), lt-ltb 0 (suc wanted) (omega arith))

-- ---- the links

taking_linked : (may : ℕ → Bool) (next : List ℕ) (n : ℕ) (xs : List ℕ) (left wanted prev at : ℕ) (chosen : List ℕ) → length next ≡ n + 1 → Linked next at xs
    → length xs ≤ left → allocation_walk (λ c. may) next n left wanted prev at chosen ≡ taken_in may prev wanted xs
unfolding allocation_walk
taking_linked may next n [] zero wanted prev at chosen z r h = rw (eq-eqb at 0 r) (ended may prev wanted)
taking_linked may next n [] (suc left) wanted prev at chosen z r h = rw (eq-eqb at 0 r) (ended may prev wanted)
taking_linked may next n (x ∷ xs) zero wanted prev at chosen z r h = absurd (omega arith)
taking_linked may next n (x ∷ xs) (suc left) zero prev at chosen z r h =
    let q : x ≤ n = omega (arith, r.2) in
    rw (r.0, ne_eqb x 0 (λ e. omega (arith, r.1)), le-ltb n x q) (sym (enough may prev (x ∷ xs)))
taking_linked may next n (x ∷ xs) (suc left) (suc wanted) prev at chosen z r h =
    let q : x ≤ n = omega (arith, r.2) in
    let d : suc wanted - 1 ≡ wanted = omega arith in
    rw (r.0, ne_eqb x 0 (λ e. omega (arith, r.1)), le-ltb n x q, ne_eqb (suc wanted) 0 (λ e. omega arith), d)
    (go (may x) refl (taking_linked may next n xs left wanted prev (get_or next x 0) (x ∷ chosen) z r.3 (omega arith))
    (taking_linked may next n xs left (suc wanted) x (get_or next x 0) chosen z r.3 (omega arith)))
  where
    go : (b : Bool) → may x ≡ b → allocation_walk (λ c. may) next n left wanted prev (get_or next x 0) (x ∷ chosen) ≡ taken_in may prev wanted xs
        → allocation_walk (λ c. may) next n left (suc wanted) x (get_or next x 0) chosen ≡ taken_in may x (suc wanted) xs
        → cond b (with_taken x prev (allocation_walk (λ c. may) next n left wanted prev (get_or next x 0) (x ∷ chosen)))
        (allocation_walk (λ c. may) next n left (suc wanted) x (get_or next x 0) chosen) ≡ taken_in may prev (suc wanted) (x ∷ xs)
    go true e a b = ap (with_taken x prev) a ∙ more may prev wanted x xs e
    go false e a b = b ∙ pass may prev wanted x xs e

-- THE WALK of the reuse chain
pub sits_taking : (n b : ℕ) (place : ℕ → Chain) (i : Index) (chains : Chain → List ℕ) → ChainsPartition n b place i chains
    → (may : ℕ → Bool) (wanted : ℕ) → allocate_from (λ c. may) i.next n i.state.first wanted ≡ taken_in may 0 wanted (chains reuse)
unfolding allocate_from ahead start
sits_taking n b place i chains g may wanted =
    taking_linked may i.next n (chains reuse) n wanted 0 i.state.first [] g.next_size
    (formed_linked i _ chains reuse g.formed.disjoint)
    (at_most n (chains reuse) (sits_once n b place i chains g reuse) (λ x m. let q = sits_in n b place i chains g reuse x m in (q.0, q.1)))

-- two tests that agree on each slot of the list, after the slots that were taken before it
abbrev pub AgreeAlong : (p q : List ℕ → ℕ → Bool) → (chosen : List ℕ) → List ℕ → Type 0
AgreeAlong p q chosen [] = Unit
AgreeAlong p q chosen (x ∷ xs) = (p chosen x ≡ q chosen x) × AgreeAlong p q (cond (q chosen x) (x ∷ chosen) chosen) xs

walk_alike : (p q : List ℕ → ℕ → Bool) (next : List ℕ) (n : ℕ) (xs : List ℕ) (left wanted prev at : ℕ) (chosen : List ℕ) → Linked next at xs
    → length xs ≤ left → AgreeAlong p q chosen xs → allocation_walk p next n left wanted prev at chosen ≡ allocation_walk q next n left wanted prev at chosen
unfolding allocation_walk
walk_alike p q next n [] zero wanted prev at chosen r h a = refl
walk_alike p q next n [] (suc left) wanted prev at chosen r h a = rw (eq-eqb at 0 r) refl
walk_alike p q next n (x ∷ xs) zero wanted prev at chosen r h a = absurd (omega arith)
walk_alike p q next n (x ∷ xs) (suc left) wanted prev at chosen r h a =
    rw (r.0, a.0)
    (ap (λ (t : Allocation). cond (eqb x 0) (at_end wanted) (cond (ltb n x) bad_link (cond (eqb wanted 0) (taken []) t)))
    (go (q chosen x) a.1
    (walk_alike p q next n xs left (wanted - 1) prev (get_or next x 0) (x ∷ chosen) r.3 (omega arith))
    (walk_alike p q next n xs left wanted x (get_or next x 0) chosen r.3 (omega arith))))
  where
    go : (b : Bool) → AgreeAlong p q (cond b (x ∷ chosen) chosen) xs
        → (AgreeAlong p q (x ∷ chosen) xs → allocation_walk p next n left (wanted - 1) prev (get_or next x 0) (x ∷ chosen)
        ≡ allocation_walk q next n left (wanted - 1) prev (get_or next x 0) (x ∷ chosen))
        → (AgreeAlong p q chosen xs → allocation_walk p next n left wanted x (get_or next x 0) chosen
        ≡ allocation_walk q next n left wanted x (get_or next x 0) chosen)
        → cond b (with_taken x prev (allocation_walk p next n left (wanted - 1) prev (get_or next x 0) (x ∷ chosen)))
        (allocation_walk p next n left wanted x (get_or next x 0) chosen)
        ≡ cond b (with_taken x prev (allocation_walk q next n left (wanted - 1) prev (get_or next x 0) (x ∷ chosen)))
        (allocation_walk q next n left wanted x (get_or next x 0) chosen)
    go true d e f = ap (with_taken x prev) (e d)
    go false d e f = f d

-- along the reuse chain such tests take the same slots
pub sits_alike : (n b : ℕ) (place : ℕ → Chain) (i : Index) (chains : Chain → List ℕ) → ChainsPartition n b place i chains
    → (p q : List ℕ → ℕ → Bool) (wanted : ℕ)
    → AgreeAlong p q [] (chains reuse) → allocate_from p i.next n i.state.first wanted ≡ allocate_from q i.next n i.state.first wanted
unfolding allocate_from ahead start
sits_alike n b place i chains g p q wanted a =
    walk_alike p q i.next n (chains reuse) n wanted 0 i.state.first []
    (formed_linked i _ chains reuse g.formed.disjoint)
    (at_most n (chains reuse) (sits_once n b place i chains g reuse) (λ x m. let q = sits_in n b place i chains g reuse x m in (q.0, q.1)))
    a

-- ---- what is taken

-- the slots are the first that may be taken
pub takes_slots : (may : ℕ → Bool) (prev wanted : ℕ) (xs : List ℕ) → taken_slots (takes_in may prev wanted xs) ≡ take wanted (filter may xs)
unfolding takes_in taken_slots filter
takes_slots may prev zero xs = refl
takes_slots may prev (suc wanted) [] = refl
takes_slots may prev (suc wanted) (x ∷ xs) = go (may x) (takes_slots may prev wanted xs) (takes_slots may x (suc wanted) xs)
  where
    go : (b : Bool) → taken_slots (takes_in may prev wanted xs) ≡ take wanted (filter may xs)
        → taken_slots (takes_in may x (suc wanted) xs) ≡ take (suc wanted) (filter may xs)
        → taken_slots (cond b (record { slot = x; prev = prev } ∷ takes_in may prev wanted xs) (takes_in may x (suc wanted) xs))
        ≡ take (suc wanted) (cond b (x ∷ filter may xs) (filter may xs))
    go true a c = ap (λ (l : List ℕ). x ∷ l) a
    go false a c = c

-- 28 just where fewer may be taken than are wanted; never 11
pub few_exact : (may : ℕ → Bool) (prev wanted : ℕ) (xs : List ℕ)
    → few_fault (taken_in may prev wanted xs) ≡ refuse_if (ltb (length (filter may xs)) wanted) 28 0
unfolding taken_in few_fault refuse_if
few_exact may prev wanted xs = go (ltb (length (filter may xs)) wanted)
  where
    go : (b : Bool) → few_fault (cond b too_few (taken (takes_in may prev wanted xs))) ≡ refuse_if b 28 0
    go true = refl
    go false = refl

pub links_fine : (may : ℕ → Bool) (prev wanted : ℕ) (xs : List ℕ) → link_fault (taken_in may prev wanted xs) ≡ 0
unfolding taken_in link_fault
links_fine may prev wanted xs = go (ltb (length (filter may xs)) wanted)
  where
    go : (b : Bool) → link_fault (cond b too_few (taken (takes_in may prev wanted xs))) ≡ 0
    go true = refl
    go false = refl

-- where enough may be taken, as many as are wanted are
pub taken_enough : (may : ℕ → Bool) (prev wanted : ℕ) (xs : List ℕ) → wanted ≤ length (filter may xs)
    → taken_in may prev wanted xs ≡ taken (takes_in may prev wanted xs)
unfolding taken_in
taken_enough may prev wanted xs h = rw (le-ltb (length (filter may xs)) wanted h)
