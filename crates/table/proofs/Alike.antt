-- Two tables with the same slots 1 to n say the same. Assumes nothing.
use mathlib.Core.Path.{◌≡◌, refl, sym, ap, ap₂, ◌∙◌}
use mathlib.Core.Bool.{Bool, true, cond, not, ◌&&◌}
use mathlib.Core.List.{List, [], ◌∷◌}
use mathlib.Core.Logic.{inl, inr}
use Prim.Native.Nat.{ℕ, zero, suc}
use native.Mathlib.Omega.{arith}
use lib.Dec.{eqb, ltb}
use Rattle.prelude.specs.Range.{any_of}
use Rattle.prelude.specs.Members.{In, Slot}
use Rattle.prelude.proofs.Count.{count_same}
use Rattle.prelude.proofs.Any.{any_same}
use Rattle.prelude.proofs.Most.{greatest_same, topmost_same, First, nowhere, there, first_is}
use Rattle.layout.specs.Content.{Content, broken, empty, put_record, remove_record, highest_whole_in, Table}
use Rattle.table.specs.Table.{is_record, key_in, rank_for_key, decider, value_in, value_at, map_of, deciding_put, live, spare, live_count, next_version}
use Rattle.table.specs.Takeable.{valid_version, highest_valid, is_remove, older, may_take, takeable_count, takeable_if, IsNewest}
use Rattle.table.specs.Reuse.{OlderFirst, HighestLast}

module _ (f g : Table) (n : ℕ) (same : (t : ℕ) → Slot n t → g t ≡ f t) where
  pub alike_decider : (k : ℕ) → decider g n k ≡ decider f n k
  unfolding decider
  alike_decider k = topmost_same (λ s. rank_for_key k (g s)) (λ s. rank_for_key k (f s)) n (λ t i. ap (rank_for_key k) (same t i))

  value_alike : (k s : ℕ) → First (λ t. rank_for_key k (f t)) n s → value_at g s ≡ value_at f s
  unfolding value_at
  value_alike k zero h = refl
  value_alike k (suc s) (nowhere e z) = absurd (omega arith)
  value_alike k (suc s) (there i p h b) = ap value_in (same (suc s) i)

  pub alike_map : (k : ℕ) → map_of g n k ≡ map_of f n k
  unfolding map_of decider
  alike_map k = ap (value_at g) (alike_decider k) ∙ value_alike k (decider f n k) (first_is (λ t. rank_for_key k (f t)) n)

  deciding_alike : (t : ℕ) (c : Content) → deciding_put g n t c ≡ deciding_put f n t c
  unfolding deciding_put
  deciding_alike t (broken top) = refl
  deciding_alike t empty = refl
  deciding_alike t (put_record version key value) = ap (λ (x : ℕ). eqb x t) (alike_decider key)
  deciding_alike t (remove_record version key) = refl

  pub alike_live : (t : ℕ) → Slot n t → live g n t ≡ live f n t
  unfolding live
  alike_live t i = ap (deciding_put g n t) (same t i) ∙ deciding_alike t (f t)

  pub alike_count : live_count g n ≡ live_count f n
  unfolding live_count
  alike_count = count_same (live g n) (live f n) n alike_live

  pub alike_next : next_version g n ≡ next_version f n
  unfolding next_version
  alike_next = ap suc (greatest_same (λ s. highest_whole_in (g s)) (λ s. highest_whole_in (f s)) n (λ t i. ap highest_whole_in (same t i)))

  pub alike_highest : highest_valid g n ≡ highest_valid f n
  unfolding highest_valid
  alike_highest = greatest_same (λ s. valid_version (g s)) (λ s. valid_version (f s)) n (λ t i. ap valid_version (same t i))

  pub alike_newest : (s : ℕ) → IsNewest f n s → IsNewest g n s
  alike_newest s h some =
      let z = h (omega (arith, alike_highest)) in (z.0, ap valid_version (same s z.0) ∙ z.1 ∙ sym alike_highest)

  pub alike_older : (s t : ℕ) → Slot n s → Slot n t → older g s t ≡ older f s t
  unfolding older
  alike_older s t i j =
      ap₂ (λ (c d : Content). is_record d && (eqb (key_in d) (key_in c) && ltb (highest_whole_in d) (highest_whole_in c))) (same s i) (same t j)

  pub alike_take : (s : ℕ) → Slot n s → may_take g n s ≡ may_take f n s
  unfolding may_take takeable_if
  alike_take s i =
      ap₂ (λ (c : Content) (b : Bool). cond (is_record c) (ltb (highest_whole_in c) (highest_valid g n) && not (is_remove c && b)) true) (same s i)
      (any_same (older g s) (older f s) 1 n (λ k l h. alike_older s k i (omega arith)))
      ∙ ap (λ (h : ℕ). cond (is_record (f s)) (ltb (highest_whole_in (f s)) h && not (is_remove (f s) && any_of (older f s) 1 n)) true) alike_highest

  pub alike_takeable : takeable_count g n ≡ takeable_count f n
  unfolding takeable_count spare
  alike_takeable =
      count_same (λ t. not (live g n t) && may_take g n t) (λ t. not (live f n t) && may_take f n t) n
      (λ t i. ap₂ (λ (a b : Bool). not a && b) (alike_live t i) (alike_take t i))

  pub alike_older_first : (l : List ℕ) → ((t : ℕ) → In t l → Slot n t) → OlderFirst f l → OlderFirst g l
  alike_older_first [] slot h = h
  alike_older_first (x ∷ l) slot h = (
    λ t m r o.
        h.0 t m (sym (ap is_remove (same x (slot x (inl refl)))) ∙ r) (sym (alike_older x t (slot x (inl refl)) (slot t (inr m))) ∙ o),
    alike_older_first l (λ t m. slot t (inr m)) h.1,
  )

  pub alike_highest_last : (l : List ℕ) → ((t : ℕ) → In t l → Slot n t) → HighestLast f n l → HighestLast g n l
  alike_highest_last [] slot h = h
  alike_highest_last (x ∷ l) slot h =
      λ r e t m.
      let z = h (sym (ap is_record (same x (slot x (inl refl)))) ∙ r) (sym (ap highest_whole_in (same x (slot x (inl refl)))) ∙ e ∙ alike_highest) t m in
      (ap is_record (same t (slot t (inr m))) ∙ z.0, ap highest_whole_in (same t (slot t (inr m))) ∙ z.1 ∙ sym alike_highest)
