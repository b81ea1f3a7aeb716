-- A list of stores is its word numbers with its values, and play of that list takes stores that are inside. Assumes nothing.
use mathlib.Core.Path.{◌≡◌, refl, sym, ap, ap₂, ◌∙◌}
use mathlib.Core.List.{List, [], ◌∷◌, ◌++◌}
use mathlib.Core.Bool.{false}
use Prim.Native.Nat.{ℕ, zero, suc, ◌+◌, ◌*◌, ◌≤◌, ◌<◌}
use native.Mathlib.Omega.{arith}
use lib.ListN.{length, get_or}
use lib.Seq.{sets}
use lib.Dec.{ltb}
use borrow.Author.Tests.{le-ltb}
use Rattle.prelude.proofs.Any.{any_clear}
use Rattle.prelude.proofs.Buffers.{Fill, fill_begins, fill_on, fill_ends}
use Rattle.prelude.proofs.Refusals.{taken_leaves}
use Rattle.stores.specs.Store.{Store, zipped, played}
use Rattle.stores.specs.Play.{play_end, word_numbers, values, list_fault, play_list_result}
use Rattle.stores.proofs.defs.Cut.{StoresInside, nil_in, cons_in}
use Rattle.stores.proofs.Plays.{list_fine}

-- THE LIST OF STORES is the zip of its two lists of numbers
pub zipped_back : (ss : List Store) → zipped (word_numbers ss) (values ss) ≡ ss
unfolding zipped word_numbers values
zipped_back [] = refl
zipped_back (s ∷ ss) = ap (λ (t : List Store). s ∷ t) (zipped_back ss)

pub numbers-length : (ss : List Store) → length (word_numbers ss) ≡ length ss
unfolding word_numbers
numbers-length [] = refl
numbers-length (s ∷ ss) = ap suc (numbers-length ss)

pub values_length : (ss : List Store) → length (values ss) ≡ length ss
unfolding values
values_length [] = refl
values_length (s ∷ ss) = ap suc (values_length ss)

pub numbers_append : (x y : List Store) → word_numbers (x ++ y) ≡ word_numbers x ++ word_numbers y
unfolding word_numbers
numbers_append [] y = refl
numbers_append (s ∷ x) y = ap (λ (t : List ℕ). s.word ∷ t) (numbers_append x y)

pub values_append : (x y : List Store) → values (x ++ y) ≡ values x ++ values y
unfolding values
values_append [] y = refl
values_append (s ∷ x) y = ap (λ (t : List ℕ). s.value ∷ t) (values_append x y)

-- ---- two lists filled with stores, part by part

-- the stores `rest` are still to be filled in from position k on: then all of them stand from position k₀ on
pub record StoresFill (at₀ value₀ : List ℕ) (k₀ : ℕ) (all : List Store) (at value : List ℕ) (k : ℕ) (rest : List Store) : Type 0 where
  pub ats : Fill at₀ k₀ (word_numbers all) at k (word_numbers rest)
  pub vals : Fill value₀ k₀ (values all) value k (values rest)

pub stores_begin : {at value : List ℕ} {k₀ k : ℕ} {all rest : List Store} → k ≡ k₀ → rest ≡ all → StoresFill at value k₀ all at value k rest
stores_begin p e = record { ats = fill_begins p (ap word_numbers e); vals = fill_begins p (ap values e) }

module _ {at₀ value₀ : List ℕ} {k₀ : ℕ} {all : List Store} {at value : List ℕ} {k : ℕ} {rest : List Store}
    (g : StoresFill at₀ value₀ k₀ all at value k rest) where
  pub stores_on : {at' value' : List ℕ} {k' : ℕ} (part : List Store) {behind : List Store} → rest ≡ part ++ behind
      → at' ≡ sets at k (word_numbers part) → value' ≡ sets value k (values part) → k' ≡ k + length part
      → StoresFill at₀ value₀ k₀ all at' value' k' behind
  stores_on part {behind} e f h q =
      record {
        ats = fill_on g.ats (word_numbers part) (ap word_numbers e ∙ numbers_append part behind) f (omega (arith, q, numbers-length part));
        vals = fill_on g.vals (values part) (ap values e ∙ values_append part behind) h (omega (arith, q, values_length part));
      }

  pub stores_end : rest ≡ [] → (at ≡ sets at₀ k₀ (word_numbers all)) × (value ≡ sets value₀ k₀ (values all))
  unfolding word_numbers values
  stores_end e = (fill_ends g.ats (ap word_numbers e), fill_ends g.vals (ap values e))

  pub stores_room : k + length rest ≡ k₀ + length all
  stores_room = omega (arith, g.ats.room, numbers-length rest, numbers-length all)

-- ---- play of the list

number_inside : {n : ℕ} {ss : List Store} → StoresInside n ss → (i : ℕ) → i < length ss → 8 * get_or (word_numbers ss) i 0 + 8 ≤ n
unfolding word_numbers
number_inside nil_in i h = absurd (omega arith)
number_inside (cons_in p b r) zero h = p
number_inside (cons_in p b r) (suc i) h = number_inside r i (omega arith)

pub list_inside : (image : List ℕ) (ss : List Store) → StoresInside (length image) ss
    → play_list_result image (word_numbers ss) (values ss) ≡ play_end 0 (played ss image)
unfolding play_list_result
list_inside image ss r =
    ap₂ play_end (sym fine)
    (taken_leaves (played (zipped (word_numbers ss) (values ss)) image) image (list_fault (length image) (word_numbers ss) (length (values ss))) (sym fine)
    ∙ ap (λ (t : List Store). played t image) (zipped_back ss))
  where
    fine : 0 ≡ list_fault (length image) (word_numbers ss) (length (values ss))
    fine =
        list_fine (length image) (word_numbers ss) (length (values ss)) (numbers-length ss ∙ sym (values_length ss)) false
        (sym
        (any_clear (λ i. ltb (length image) (8 * get_or (word_numbers ss) i 0 + 8)) 0 (length (word_numbers ss))
        (λ i h. le-ltb (length image) (8 * get_or (word_numbers ss) (0 + i) 0 + 8) (number_inside r (0 + i) (omega (arith, numbers-length ss)))))) refl
