-- The index that is built from recovery's order and places is the index of document 01's chains. Assumes nothing.
use mathlib.Core.Path.{◌≡◌, refl, sym, ap, ap₂, ◌∙◌, subst, fun_ext}
use mathlib.Core.Bool.{Bool, true, false, cond, not, ◌&&◌}
use mathlib.Core.Logic.{◌⊎◌, inl, inr, by_cases}
use mathlib.Core.List.{List, ◌∷◌}
use Prim.Native.Nat.{ℕ, zero, suc, ◌+◌, ◌%◌, ◌^◌, ◌≤◌, ◌<◌}
use native.Mathlib.Nat.{mod-lt}
use native.Mathlib.Decide.{ℕ_discrete}
use native.Mathlib.Omega.{arith}
use lib.Dec.{eqb}
use lib.ListN.{length, replicate, length-replicate}
use borrow.Author.Tests.{eq-eqb, ne_eqb}
use Rattle.prelude.proofs.Choice.{pick_true, pick_false, split}
use Rattle.prelude.specs.Range.{tabulate}
use Rattle.prelude.specs.Filter.{filter}
use Rattle.prelude.specs.Members.{In, slot_numbers}
use Rattle.sorting.proofs.Order.{filter-sorted}
use Rattle.layout.specs.Content.{Table}
use Rattle.table.specs.Table.{live_count, next_version, key_in, live, spare}
use Rattle.table.specs.Order.{rank_of, ordered, chain_of, reuse_of}
use Rattle.prelude.proofs.Lists.{slots-in, AllSlots}
use Rattle.index.specs.Index.{Index, index_of, with_counts, Chain, reuse, head, head_of}
use Rattle.index.specs.Chained.{last_of, after, next_in, chained}
use Rattle.index.specs.declared.State.{State}
use Rattle.index.specs.inner.Build.{build, place_in, unbuilt, Ordered, chain_from}
use Rattle.index.proofs.defs.Linked.{same_chain, chains_by}
use Rattle.index.specs.Linked.{ChainsPartition}
use Rattle.index.proofs.Chained.{built_sits, built_chained}
use Rattle.index.proofs.Owners.{apart_heads}
use Rattle.recovery.specs.Recover.{chains_of, place_of, recovered_index, newest_slot}
use Rattle.recovery.specs.inner.Decide.{live_place}
use Rattle.recovery.specs.inner.Judge.{Arranged}
use Rattle.recovery.proofs.Orders.{whole_order}
use Rattle.prelude.proofs.Fills.{zeros}
use Rattle.prelude.proofs.Lists.{filter_alike}

-- ---- lists and tables that agree where it counts

pub tabulate_alike : (f g : ℕ → ℕ) (k n : ℕ) → ((i : ℕ) → k ≤ i → i < k + n → f i ≡ g i) → tabulate f k n ≡ tabulate g k n
unfolding tabulate
tabulate_alike f g k zero h = refl
tabulate_alike f g k (suc n) h =
    ap₂ (λ (x : ℕ) (t : List ℕ). x ∷ t) (h k (omega arith) (omega arith))
    (tabulate_alike f g (suc k) n (λ i p q. h i (omega arith) (omega arith)))

next_alike : (n : ℕ) (chains : Chain → List ℕ) (p q : ℕ → Chain) → ((s : ℕ) → 0 < s → s ≤ n → p s ≡ q s) → (i : ℕ) → i ≤ n
    → next_in chains p i ≡ next_in chains q i
unfolding next_in
next_alike n chains p q h zero l = refl
next_alike n chains p q h (suc s) l = ap (λ (c : Chain). after (suc s) (chains c)) (h (suc s) (omega arith) l)

chained_alike : (n b : ℕ) (chains : Chain → List ℕ) (p q : ℕ → Chain) → ((s : ℕ) → 0 < s → s ≤ n → p s ≡ q s)
    → (live version newest : ℕ) → chained n b chains p live version newest ≡ chained n b chains q live version newest
unfolding chained
chained_alike n b chains p q h live version newest =
    ap (λ (t : List ℕ). index_of (chained n b chains p live version newest).heads t (chained n b chains p live version newest).state)
    (tabulate_alike (next_in chains p) (next_in chains q) 0 (n + 1) (λ i low high. next_alike n chains p q h i (omega arith)))

-- ---- the chains

eqb_swap : (x y : ℕ) → eqb x y ≡ eqb y x
eqb_swap x y =
    by_cases (ℕ_discrete x y) (λ e. eq-eqb x y e ∙ sym (eq-eqb y x (sym e)))
    (λ ne. ne_eqb x y ne ∙ sym (ne_eqb y x (λ e. ne (sym e))))

-- a slot's chain by its number is its chain by the table
place-of : (f : Table) (n b s : ℕ) → chain_from (live_place f n b s) ≡ place_of f n b s
unfolding chain_from live_place place_of
place-of f n b s = go (split (live f n s))
  where
    next : head_of (key_in (f s)) b + 1 ≡ suc (head_of (key_in (f s)) b)
    next = omega arith

    go : (live f n s ≡ true) ⊎ (live f n s ≡ false) → chain_from (cond (live f n s) (head_of (key_in (f s)) b + 1) 0)
        ≡ cond (live f n s) (head (head_of (key_in (f s)) b)) reuse
    go (inl e) =
        ap chain_from (pick_true (live f n s) _ _ e ∙ next) ∙ sym (pick_true (live f n s) (head (head_of (key_in (f s)) b)) reuse e)
    go (inr e) = ap chain_from (pick_false (live f n s) _ _ e) ∙ sym (pick_false (live f n s) (head (head_of (key_in (f s)) b)) reuse e)

-- the test for a chain by place is the test of document 01's chain
in_reuse : (f : Table) (n b s : ℕ) → same_chain reuse (place_of f n b s) ≡ spare f n s
unfolding place_of spare
in_reuse f n b s = go (split (live f n s))
  where
    go : (live f n s ≡ true) ⊎ (live f n s ≡ false) → same_chain reuse (cond (live f n s) (head (head_of (key_in (f s)) b)) reuse) ≡ not (live f n s)
    go (inl e) = rw e
    go (inr e) = rw e

in_head : (f : Table) (n b h s : ℕ) → same_chain (head h) (place_of f n b s) ≡ (live f n s && eqb (head_of (key_in (f s)) b) h)
unfolding place_of
in_head f n b h s = go (split (live f n s))
  where
    go : (live f n s ≡ true) ⊎ (live f n s ≡ false) → same_chain (head h) (cond (live f n s) (head (head_of (key_in (f s)) b)) reuse)
        ≡ (live f n s && eqb (head_of (key_in (f s)) b) h)
    go (inl e) = rw e (eqb_swap h (head_of (key_in (f s)) b))
    go (inr e) = rw e

head_in : (f : Table) (n b s h : ℕ) → 1 ≤ b → place_of f n b s ≡ head h → h < b
unfolding place_of
head_in f n b s h few e = go (split (live f n s))
  where
    below : (x : ℕ) → x % b < b
    below x = mod-lt x few

    other : reuse ≡ head h → ⊥
    other q = let z : ◌≡◌ {A = ℕ} 0 1 = cc in omega arith

    go : (live f n s ≡ true) ⊎ (live f n s ≡ false) → h < b
    go (inl t) =
        omega (
          arith,
          below (key_in (f s) % 2 ^ 64),
          apart_heads _ h (sym (pick_true (live f n s) (head (head_of (key_in (f s)) b)) reuse t) ∙ e),
        )
    go (inr t) = absurd (other (sym (pick_false (live f n s) (head (head_of (key_in (f s)) b)) reuse t) ∙ e))

pub ordered_whole : (f : Table) (n : ℕ) (order : List ℕ) → order ≡ ordered f (slot_numbers n) → AllSlots n order
unfolding ordered
ordered_whole f n order e = whole_order (λ s. rank_of (f s)) n order e

pub arranged_place : (f : Table) (n b : ℕ) (order places : List ℕ) (live-count top : ℕ) → Arranged f n b order places live-count top
    → (s : ℕ) → 0 < s → s ≤ n → place_in places s ≡ place_of f n b s
unfolding place_in
arranged_place f n b order places live-count top a s low high = ap chain_from (a.place_is s low high) ∙ place-of f n b s

-- all slots by rising rank, pushed into an index of zeros
module _ (f : Table) (n b : ℕ) (order : List ℕ) (place : ℕ → Chain) (few : 1 ≤ b) (order_is : order ≡ ordered f (slot_numbers n))
    (at_place : (s : ℕ) → 0 < s → s ≤ n → place s ≡ place_of f n b s) where
  whole : AllSlots n order
  whole = ordered_whole f n order order_is

  kept : (p q : ℕ → Bool) → ((s : ℕ) → 0 < s → s ≤ n → p s ≡ q s) → filter p order ≡ ordered f (filter q (slot_numbers n))
  unfolding ordered
  kept p q h =
      ap (filter p) order_is ∙ filter-sorted (λ s. rank_of (f s)) p (slot_numbers n)
      ∙ ap (ordered f) (filter_alike p q (slot_numbers n) (λ x i. let t = slots-in n x i in h x t.0 t.1))

  chains_are : (c : Chain) → chains_by place order c ≡ chains_of f n b c
  unfolding chains_by chains_of reuse_of chain_of
  chains_are reuse = kept (λ s. same_chain reuse (place s)) (spare f n) (λ s low high. ap (same_chain reuse) (at_place s low high) ∙ in_reuse f n b s)
  chains_are (head h) =
      kept (λ s. same_chain (head h) (place s)) (λ s. live f n s && eqb (head_of (key_in (f s)) b) h)
      (λ s low high. ap (same_chain (head h)) (at_place s low high) ∙ in_head f n b h s)

  heads_in : (s h : ℕ) → In s order → place s ≡ head h → h < b
  heads_in s h i e = let t = whole.within s i in head_in f n b s h few (sym (at_place s t.0 t.1) ∙ e)

  pub arranged_sits : ChainsPartition n b place (build place (unbuilt (replicate b 0) (replicate (n + 1) 0)) order) (chains_of f n b)
  arranged_sits =
      subst (λ (chains : Chain → List ℕ). ChainsPartition n b place (build place (unbuilt (replicate b 0) (replicate (n + 1) 0)) order) chains)
      (fun_ext chains_are)
      (built_sits n b place order (replicate b 0) (replicate (n + 1) 0) whole.once whole.within (λ x low high. whole.all x (low, high))
      heads_in (length-replicate b 0) (length-replicate (n + 1) 0) (zeros b))

  -- THE INDEX: what is built is what document 01 lays down
  pub arranged_index : (live-count version : ℕ) → live-count ≡ live_count f n → version ≡ next_version f n
      → with_counts (build place (unbuilt (replicate b 0) (replicate (n + 1) 0)) order) live-count version (last_of order) ≡ recovered_index f n b
  unfolding recovered_index newest_slot
  arranged_index live-count version el ev =
      built_chained n b place order _ _ (chains_of f n b) whole.within (zeros (n + 1) 0) arranged_sits live-count version (last_of order)
      ∙ chained_alike n b (chains_of f n b) place (place_of f n b) at_place live-count version (last_of order)
      ∙ ap₂ (λ (x y : ℕ). chained n b (chains_of f n b) (place_of f n b) x y (last_of order)) el ev
      ∙ ap (λ (xs : List ℕ). chained n b (chains_of f n b) (place_of f n b) (live_count f n) (next_version f n) (last_of xs)) order_is

-- ---- rebuild
