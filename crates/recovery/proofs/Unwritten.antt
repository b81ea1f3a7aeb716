-- A table of empty slots, such as format leaves: what recovery reads of it. Assumes nothing.
use mathlib.Core.Path.{◌≡◌, ap, ◌∙◌}
use mathlib.Core.Bool.{Bool, true, false, not, ◌&&◌}
use mathlib.Core.List.{[]}
use Prim.Native.Nat.{ℕ, ◌≤◌}
use native.Mathlib.Omega.{arith}
use lib.Dec.{eqb}
use Rattle.prelude.specs.Refusal.{refuse_if}
use Rattle.layout.specs.Content.{empty, highest_whole_in, Table}
use Rattle.prelude.proofs.Refusals.{refuse_if-false}
use Rattle.sorting.specs.Sorted.{sorted}
use Rattle.prelude.specs.Members.{slot_numbers, Slot}
use Rattle.sorting.proofs.Order.{sorted_rising}
use Rattle.sorting.proofs.Counts.{flat}
use Rattle.table.specs.Table.{key_in, next_version, deciding_put, live, spare, live_count, all_live}
use Rattle.table.specs.Complete.{SizeFields, settled}
use Rattle.table.specs.Shared.{sharers_fault}
use Rattle.table.specs.Order.{rank_of, ordered, chain_of, reuse_of}
use Rattle.prelude.proofs.Lists.{slots-in, filter_all, filter_none}
use Rattle.prelude.proofs.Count.{count_none}
use Rattle.table.proofs.LiveCount.{room_all}
use Rattle.table.proofs.Broken.{few_many}
use Rattle.table.proofs.Shared.{agreed_fault}
use Rattle.table.proofs.Formatted.{format_none_void, format_accepted}
use Rattle.table.proofs.Complete.{settled_same}
use Rattle.prelude.proofs.Most.{greatest_least}
use Rattle.recovery.specs.Recover.{settled_fault}
use Rattle.recovery.proofs.defs.Fresh.{Fresh}

-- ---- a table of empty slots

module _ (f : Table) (n : ℕ) (blank : (s : ℕ) → Slot n s → f s ≡ empty) where
  unwritten_live : (s : ℕ) → Slot n s → live f n s ≡ false
  unfolding live deciding_put
  unwritten_live s i = ap (deciding_put f n s) (blank s i)

  unwritten_count : live_count f n ≡ 0
  unfolding live_count
  unwritten_count = count_none (live f n) n unwritten_live

  top_zero : (s : ℕ) → Slot n s → highest_whole_in (f s) ≡ 0
  unfolding highest_whole_in
  top_zero s i = ap highest_whole_in (blank s i)

  unwritten_version : next_version f n ≡ 1
  unfolding next_version
  unwritten_version = omega (arith, greatest_least (λ s. highest_whole_in (f s)) n 0 (λ t i. omega (arith, top_zero t i)))

  rank_one : (s : ℕ) → Slot n s → rank_of (f s) ≡ 1
  unfolding rank_of
  rank_one s i = ap rank_of (blank s i)

  spare_all : (s : ℕ) → Slot n s → spare f n s ≡ true
  unfolding spare
  spare_all s i = ap not (unwritten_live s i)

  unwritten_reuse : reuse_of f n ≡ slot_numbers n
  unfolding reuse_of ordered
  unwritten_reuse =
      ap (sorted (λ s. rank_of (f s))) (filter_all (spare f n) (slot_numbers n) (λ x i. spare_all x (slots-in n x i)))
      ∙ sorted_rising (λ s. rank_of (f s)) (slot_numbers n) (flat (λ s. rank_of (f s)) 1 (slot_numbers n) (λ x i. rank_one x (slots-in n x i)))

  unwritten_chain : (head : ℕ → ℕ) (h : ℕ) → chain_of f n head h ≡ []
  unfolding chain_of ordered sorted
  unwritten_chain head h =
      ap (sorted (λ s. rank_of (f s)))
      (filter_none (λ s. live f n s && eqb (head (key_in (f s))) h) (slot_numbers n)
      (λ x i. ap (λ (t : Bool). t && eqb (head (key_in (f x))) h) (unwritten_live x (slots-in n x i))))

  unwritten_room : 1 ≤ n → all_live f n ≡ false
  unwritten_room some = room_all f n (omega (arith, unwritten_count))

-- the table of the contents of such slots; whatever the numbers are, no slot is void
module _ (f : Table) (num : SizeFields) (n : ℕ) (blank : (s : ℕ) → Slot n s → f s ≡ empty) where
  settled_blank : (s : ℕ) → Slot n s → settled f num n s ≡ empty
  settled_blank s i = settled_same f num n s (format_none_void f num n blank s i) ∙ blank s i

  -- neither 7, 25 nor 8
  pub unwritten_fine : 1 ≤ n → refuse_if (sharers_fault f num n) 7 (settled_fault (settled f num n) n) ≡ 0
  unfolding settled_fault
  unwritten_fine some =
      let a = format_accepted f num n blank some in
      refuse_if-false _ 7 _ (agreed_fault f num n a.agreed) ∙ refuse_if-false _ 25 _ (few_many (settled f num n) n a.few)
      ∙ refuse_if-false _ 8 _ (room_all (settled f num n) n a.idle)

  -- THE FORMATTED TABLE
  pub formatted_recovery : 1 ≤ n → Fresh (settled f num n) n
  formatted_recovery some =
      record {
        live-count = unwritten_count (settled f num n) n settled_blank;
        next-version = unwritten_version (settled f num n) n settled_blank;
        all_spare = unwritten_reuse (settled f num n) n settled_blank;
        no_chain = unwritten_chain (settled f num n) n settled_blank;
        some_room = unwritten_room (settled f num n) n settled_blank some;
      }
