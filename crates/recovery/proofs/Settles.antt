-- What the functions that judge and settle need. Assumes nothing.
use mathlib.Core.Path.{◌≡◌, refl, sym, ap, ap₂, ◌∙◌}
use mathlib.Core.Bool.{Bool, true, false, cond}
use mathlib.Core.Logic.{by_cases}
use mathlib.Core.List.{List, []}
use Prim.Native.Nat.{ℕ, zero, suc, ◌+◌, ◌-◌, ◌≤◌, ◌<◌}
use native.Mathlib.Decide.{ℕ_discrete}
use native.Mathlib.Omega.{arith}
use lib.Dec.{ltb}
use lib.ListN.{length, get_or, set, length-set}
use lib.Seq.{get_or-set_same, get_or-set_other, set_out}
use borrow.Author.Tests.{lt-ltb, le-ltb}
use Rattle.prelude.proofs.Choice.{pick_true, pick_false}
use Rattle.prelude.specs.Filter.{filter}
use Rattle.prelude.specs.Members.{Slot, slot_numbers}
use Rattle.prelude.proofs.Lists.{AllSlots, slots-in, filter_none}
use Rattle.sorting.specs.Sorted.{sorted}
use Rattle.sorting.proofs.Order.{rising_sorted}
use Rattle.sorting.proofs.Positions.{stands, rising_at}
use Rattle.stores.specs.Store.{Store}
use Rattle.stores.specs.Invalidation.{invalidating_stores}
use Rattle.table.specs.Complete.{SizeFields}
use Rattle.recovery.specs.Invalidation.{invalidations_of}
use Rattle.recovery.specs.inner.Scan.{key_at}
use Rattle.recovery.specs.inner.Decide.{entry_at, full_run, judged_rank, Cleared}
use Rattle.recovery.specs.inner.Judge.{Settleable, Settled, with_store}
use Rattle.recovery.specs.declared.Invalidations.{Invalidations}
use Rattle.recovery.proofs.Orders.{whole_order, whole_within}

-- ---- judging, turn by turn

-- what is left to be judged is the whole
pub record Judging (num : SizeFields) (ranks order : List ℕ) (n i : ℕ) : Type 0 where
  pub position : i ≤ n
  pub rest : judged_rank num ranks order i ≡ judged_rank num ranks order n

module _ (num : SizeFields) (ranks order : List ℕ) (n i j : ℕ) (g : Judging num ranks order n i) (at : j ≡ i - 1) (some : 0 < i) where
  one_turn : judged_rank num ranks order n
      ≡ cond (ltb (entry_at ranks order j) 2) 2 (cond (full_run num ranks order j) (entry_at ranks order j) (judged_rank num ranks order j))
  unfolding judged_rank
  one_turn = let e : i ≡ suc j = omega arith in sym g.rest ∙ ap (judged_rank num ranks order) e

  module _ (rank : ℕ) (r : rank ≡ entry_at ranks order j) where
    pub judging_low : rank < 2 → 2 ≡ judged_rank num ranks order n
    judging_low h = sym (one_turn ∙ pick_true (ltb (entry_at ranks order j) 2) _ _ (lt-ltb (entry_at ranks order j) 2 (omega arith)))

    past_low : 2 ≤ rank → judged_rank num ranks order n ≡ cond (full_run num ranks order j) (entry_at ranks order j) (judged_rank num ranks order j)
    past_low h = one_turn ∙ pick_false (ltb (entry_at ranks order j) 2) _ _ (le-ltb (entry_at ranks order j) 2 (omega arith))

    pub judging_full : 2 ≤ rank → (full : Bool) → full ≡ full_run num ranks order j → full ≡ true → rank ≡ judged_rank num ranks order n
    judging_full h full e t = r ∙ sym (past_low h ∙ pick_true (full_run num ranks order j) _ _ (sym e ∙ t))

    pub judging_next : 2 ≤ rank → (full : Bool) → full ≡ full_run num ranks order j → full ≡ false → Judging num ranks order n j
    judging_next h full e t =
        record { position = omega (arith, g.position); rest = sym (past_low h ∙ pick_false (full_run num ranks order j) _ _ (sym e ∙ t)) }

pub judging_end : (num : SizeFields) (ranks order : List ℕ) (n i : ℕ) → Judging num ranks order n i → i ≤ 0 → 2 ≡ judged_rank num ranks order n
unfolding judged_rank
judging_end num ranks order n zero g h = g.rest
judging_end num ranks order n (suc i) g h = absurd (omega arith)

-- ---- clearing, slot by slot

-- the slots below s are cleared, the others as they were
pub record Clearing (limit n : ℕ) (ranks₀ places₀ ranks places : List ℕ) (s : ℕ) : Type 0 where
  pub low : 1 ≤ s
  pub high : s ≤ n + 1
  pub ranks_size : length ranks ≡ length ranks₀
  pub places_size : length places ≡ length places₀
  pub rank_at : (t : ℕ) → 0 < t → t < s → get_or ranks t 0 ≡ cond (ltb limit (get_or ranks₀ t 0)) 0 (get_or ranks₀ t 0)
  pub place_at : (t : ℕ) → 0 < t → t < s → get_or places t 0 ≡ cond (ltb limit (get_or ranks₀ t 0)) 0 (get_or places₀ t 0)
  pub ranks_left : (t : ℕ) → s ≤ t → get_or ranks t 0 ≡ get_or ranks₀ t 0
  pub places_left : (t : ℕ) → s ≤ t → get_or places t 0 ≡ get_or places₀ t 0

-- ---- one store more, past the eighth

pub with_store_past : (o : Invalidations) (s : Store) → length o.at ≤ o.count → length o.value ≤ o.count
    → record { count = o.count + 1; at = o.at; value = o.value } ≡ with_store o s
unfolding with_store
with_store_past o s p q =
    ap₂ (λ (x y : List ℕ). record { count = o.count + 1; at = x; value = y }) (sym (set_out o.at o.count s.word p))
    (sym (set_out o.value o.count s.value q))

-- ---- settle

module _ (n : ℕ) (image ranks lows highs places order by_key spare : List ℕ) (g : Settleable image n ranks lows highs places order by_key spare) where
  all_slots : AllSlots n order
  all_slots = whole_order (λ x. get_or ranks x 0) n order g.in_order.by_rank

  pub settle_last : (n - 1 < length order) × (get_or order (n - 1) 0 < length ranks)
  settle_last =
      let inside : n - 1 < length order = omega (arith, all_slots.size, g.some_slots) in
      (inside, omega (arith, g.ranks_size, (whole_within order n all_slots (n - 1) inside).1))

  module _ (m : ℕ → ℕ) (limit : ℕ) where
    -- where the last slot of the order is not above the limit none is
    none_above : entry_at ranks order (n - 1) ≤ limit → (s : ℕ) → Slot n s → get_or ranks s 0 ≤ limit
    none_above h s i =
        let p = stands order s (all_slots.all s i) in
        let last = rising_at (λ x. get_or ranks x 0) order p.spot (n - 1) (rw g.in_order.by_rank (rising_sorted (λ x. get_or ranks x 0) (slot_numbers n)))
        (omega (arith, p.inside, all_slots.size)) (omega (arith, g.some_slots, all_slots.size)) in
        omega (arith, last, h, ap (λ (x : ℕ). get_or ranks x 0) p.here)

    pub settled_none : (last : ℕ) → last ≡ entry_at ranks order (n - 1) → last ≤ limit → (o : Invalidations) → o ≡ invalidations_of []
        → Settled m limit n ranks lows highs places ranks places order by_key o
    unfolding invalidating_stores
    settled_none last e h o d =
        record {
          cleared =
              record {
                ranks_size = refl;
                places_size = refl;
                rank_at = λ s p q. sym (pick_false (ltb limit (get_or ranks s 0)) 0 (get_or ranks s 0) (below s (p, q)));
                place_at = λ s p q. sym (pick_false (ltb limit (get_or ranks s 0)) 0 (get_or places s 0) (below s (p, q)));
              };
          in_order = g.in_order;
          opened_is =
              d ∙ ap (λ (t : List ℕ). invalidations_of (invalidating_stores m t))
              (sym (filter_none (λ s. ltb limit (get_or ranks s 0)) (slot_numbers n) (λ t i. below t (slots-in n t i))));
        }
      where
        below : (s : ℕ) → Slot n s → ltb limit (get_or ranks s 0) ≡ false
        below s i = le-ltb limit (get_or ranks s 0) (none_above (omega (arith, e)) s i)
