-- What the functions that compare neighbours need. Assumes nothing.
use mathlib.Core.Path.{◌≡◌, refl, sym, ap, ap₂, ◌∙◌}
use mathlib.Core.Bool.{Bool, true, false, cond, ◌&&◌}
use mathlib.Core.List.{List}
use Prim.Native.Nat.{ℕ, ◌+◌, ◌-◌, ◌≤◌, ◌<◌}
use native.Mathlib.Omega.{arith}
use lib.Dec.{eqb, ltb, leb}
use lib.ListN.{length, get_or}
use borrow.Author.Tests.{lt-ltb, le-ltb, le-leb, lt-leb, eq-eqb, ne_eqb}
use Rattle.prelude.proofs.Choice.{pick_true, pick_false, false_left, true-false, is_false}
use Rattle.prelude.specs.Members.{Slot, slot_numbers}
use Rattle.prelude.proofs.Any.{any_none_at, any_clear_at}
use Rattle.prelude.specs.Range.{any_of}
use Rattle.sorting.specs.Sorted.{sorted}
use Rattle.sorting.proofs.Whole.{whole_sorted}
use Rattle.sorting.proofs.Order.{at_in, rising_sorted}
use Rattle.sorting.proofs.Positions.{once_at}
use Rattle.sorting.proofs.Runs.{SameRank, rank_swap, rank_between, no_two}
use Rattle.prelude.proofs.Lists.{AllSlots}
use Rattle.table.specs.Complete.{SizeFields, basket_size}
use Rattle.recovery.specs.inner.Scan.{key_at}
use Rattle.recovery.specs.inner.Decide.{entry_at, equal_neighbours, too_many, run_fault, full_run, followed, key_twice, Within, NoneOrAll}
use Rattle.recovery.specs.inner.Judge.{OrderNumbered, Comparable, Compared}
use Rattle.recovery.proofs.Orders.{whole_order, whole_within}
use Rattle.recovery.proofs.Scans.{highs_all}
use Rattle.recovery.proofs.Neighbours.{neighbours_are, are_neighbours, run_first, twice_is}

second : (p q : Bool) → p ≡ true → q ≡ p && q
second true q e = refl
second false q e = absurd (true-false e refl)

-- a run that is too long, and one that is full; k is what the number of the slot says

module _ (num : SizeFields) (ranks order : List ℕ) (i k : ℕ) (e : k ≡ basket_size (num (get_or order i 0))) where
  pub too_many_past : length order ≤ i + k → false ≡ too_many num ranks order i
  unfolding too_many
  too_many_past h =
      sym (false_left (ltb (i + basket_size (num (get_or order i 0))) (length order)) _
      (le-ltb (i + basket_size (num (get_or order i 0))) (length order) (omega arith)))

  pub too_many_test : (a b : ℕ) → i + k < length order → a ≡ entry_at ranks order (i + k) → b ≡ entry_at ranks order i → eqb a b ≡ too_many num ranks order i
  unfolding too_many
  too_many_test a b h p q =
      ap₂ eqb (p ∙ ap (λ (x : ℕ). entry_at ranks order (i + x)) e) q
      ∙ second (ltb (i + basket_size (num (get_or order i 0))) (length order)) _
      (lt-ltb (i + basket_size (num (get_or order i 0))) (length order) (omega arith))

  pub full_short : i + 1 < k → false ≡ full_run num ranks order i
  unfolding full_run
  full_short h = sym (false_left (leb (basket_size (num (get_or order i 0))) (i + 1)) _ (lt-leb (basket_size (num (get_or order i 0))) (i + 1) (omega arith)))

  pub full_test : (a b : ℕ) → k ≤ i + 1 → a ≡ entry_at ranks order (i + 1 - k) → b ≡ entry_at ranks order i → eqb a b ≡ full_run num ranks order i
  unfolding full_run
  full_test a b h p q =
      ap₂ eqb (p ∙ ap (λ (x : ℕ). entry_at ranks order (i + 1 - x)) e) q
      ∙ second (leb (basket_size (num (get_or order i 0))) (i + 1)) _ (le-leb (basket_size (num (get_or order i 0))) (i + 1) (omega arith))

-- a run that is at fault; shared is the test of the two neighbours, a and b are their numbers

module _ (num : SizeFields) (ranks order : List ℕ) (i : ℕ) (shared : Bool) (e : shared ≡ equal_neighbours ranks order i) where
  pub run_apart : shared ≡ false → false ≡ run_fault num ranks order i
  unfolding run_fault
  run_apart t = sym (false_left (equal_neighbours ranks order i) _ (sym e ∙ t))

  module _ (t : shared ≡ true) (a b : ℕ) (p : a ≡ num (get_or order i 0)) (q : b ≡ num (get_or order (i + 1) 0)) where
    by_numbers : cond (eqb a b) (too_many num ranks order i) true ≡ run_fault num ranks order i
    unfolding run_fault
    by_numbers =
        ap₂ (λ (x y : ℕ). cond (eqb x y) (too_many num ranks order i) true) p q ∙ second (equal_neighbours ranks order i) _ (sym e ∙ t)

    pub run_differs : (a ≡ b → ⊥) → true ≡ run_fault num ranks order i
    run_differs ne = sym (pick_false (eqb a b) (too_many num ranks order i) true (ne_eqb a b ne)) ∙ by_numbers

    pub run_test : a ≡ b → (r : Bool) → r ≡ too_many num ranks order i → r ≡ run_fault num ranks order i
    run_test s r x = x ∙ sym (pick_true (eqb a b) (too_many num ranks order i) true (eq-eqb a b s)) ∙ by_numbers

-- a key twice; behind is the test of the key

module _ (key : ℕ → ℕ) (ranks order : List ℕ) (i : ℕ) (behind : Bool) (e : behind ≡ followed key order i) where
  pub twice_apart : behind ≡ false → false ≡ key_twice key ranks order i
  unfolding key_twice
  twice_apart t = sym (false_left (followed key order i) _ (sym e ∙ t))

  pub twice_test : behind ≡ true → (r : Bool) → r ≡ equal_neighbours ranks order i → r ≡ key_twice key ranks order i
  unfolding key_twice
  twice_test t r x = x ∙ second (followed key order i) _ (sym e ∙ t)

-- ---- compare

module _ (image : List ℕ) (l n : ℕ) (ranks lows highs order₀ by-key₀ spare₀ order : List ℕ)
    (g : Comparable image l n ranks lows highs order₀ by-key₀ spare₀) (o : order ≡ sorted (λ x. get_or ranks x 0) (slot_numbers (length order₀))) where
  by_rank : order ≡ sorted (λ x. get_or ranks x 0) (slot_numbers n)
  by_rank = o ∙ ap (λ (k : ℕ). sorted (λ x. get_or ranks x 0) (slot_numbers k)) g.order_size

  ranked : AllSlots n order
  ranked = whole_order (λ x. get_or ranks x 0) n order by_rank

  pub compare_near : (length order ≡ n) × (1 ≤ n) × (length ranks ≡ n + 1) × Within order n
  compare_near = (ranked.size, g.some_slots, g.ranks_size, whole_within order n ranked)

  pub compare_runs : OrderNumbered image l order n × (length ranks ≡ n + 1) × (1 ≤ n)
  compare_runs = (
    record { layout = g.layout; image-size = g.image-size; order_size = ranked.size; within = whole_within order n ranked; few = g.few },
    g.ranks_size,
    g.some_slots,
  )

  module _ (by_key : List ℕ) (k : by_key ≡ sorted (key_at lows highs) order) where
    keyed : AllSlots n by_key
    keyed = rw k (whole_sorted (key_at lows highs) n order ranked)

    pub compare_keys : (length by_key ≡ n) × (length ranks ≡ n + 1) × (length lows ≡ n + 1) × NoneOrAll highs n × Within by_key n × (1 ≤ n)
    compare_keys =
        (keyed.size, g.ranks_size, g.lows_size, highs_all l n highs g.layout g.highs_size, whole_within by_key n keyed, g.some_slots)

    -- where no two neighbours of the order by rank share a version no two slots do
    module _ (none : any_of (equal_neighbours ranks order) 0 (n - 1) ≡ false) where
      none_near : (i : ℕ) → i + 1 < n → equal_neighbours ranks order i ≡ true → ⊥
      none_near i h t = true-false t (any_none_at (equal_neighbours ranks order) (n - 1) none i (omega arith))

      none_share : (s t : ℕ) → Slot n s → Slot n t → (s ≡ t → ⊥) → SameRank (λ x. get_or ranks x 0) 2 s t → ⊥
      none_share s t i j =
          no_two order (SameRank (λ x. get_or ranks x 0) 2) (rank_swap (λ x. get_or ranks x 0) 2)
          (rank_between (λ x. get_or ranks x 0) 2 order (rw by_rank (rising_sorted (λ x. get_or ranks x 0) (slot_numbers n))))
          (λ k h e. none_near k (omega (arith, ranked.size)) (are_neighbours ranks order k e.0 e.1)) s t (ranked.all s i) (ranked.all t j)

      no_twice : (i : ℕ) → i + 1 < n → key_twice (key_at lows highs) ranks by_key i ≡ true → ⊥
      no_twice i h t =
          none_share (get_or by_key i 0) (get_or by_key (i + 1) 0) (slot i (omega arith)) (slot (i + 1) h)
          (λ q. omega (arith, once_at by_key i (i + 1) keyed.once (omega (arith, keyed.size)) (omega (arith, keyed.size)) q))
          (neighbours_are ranks by_key i (twice_is (key_at lows highs) ranks by_key i t).1)
        where
          slot : (x : ℕ) → x < n → Slot n (get_or by_key x 0)
          slot x u = keyed.within (get_or by_key x 0) (at_in by_key x (omega (arith, keyed.size)))

    pub compared_none : (num : SizeFields) (some : Bool) → some ≡ any_of (equal_neighbours ranks order) 0 (n - 1) → some ≡ false
        → Compared num ranks lows highs n order by_key false
    compared_none num some e t =
        record {
          in_order = record { by_rank = by_rank; keyed = k };
          shared_is =
              sym
              (pick_false (any_of (run_fault num ranks order) 0 (n - 1)) true _
              (any_clear_at (run_fault num ranks order) (n - 1)
              (λ i h. is_false (run_fault num ranks order i) (λ x. none_near none i (omega arith) (run_first num ranks order i x))))
              ∙ any_clear_at (key_twice (key_at lows highs) ranks by_key) (n - 1)
              (λ i h. is_false (key_twice (key_at lows highs) ranks by_key i) (no_twice none i (omega arith))));
        }
      where
        none : any_of (equal_neighbours ranks order) 0 (n - 1) ≡ false
        none = sym e ∙ t

    module _ (num : SizeFields) (runs : Bool) (r : runs ≡ any_of (run_fault num ranks order) 0 (n - 1)) where
      pub compared_runs : runs ≡ true → Compared num ranks lows highs n order by_key true
      compared_runs t =
          record {
            in_order = record { by_rank = by_rank; keyed = k };
            shared_is = sym (pick_true (any_of (run_fault num ranks order) 0 (n - 1)) true _ (sym r ∙ t));
          }

      pub compared_keys : runs ≡ false → (shared : Bool) → shared ≡ any_of (key_twice (key_at lows highs) ranks by_key) 0 (n - 1)
          → Compared num ranks lows highs n order by_key shared
      compared_keys t shared e =
          record {
            in_order = record { by_rank = by_rank; keyed = k };
            shared_is = e ∙ sym (pick_false (any_of (run_fault num ranks order) 0 (n - 1)) true _ (sym r ∙ t));
          }
