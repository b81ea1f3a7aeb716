-- Stores by value: one more of them, the list back from them, and those of the slots that pass a test. Assumes nothing.
use mathlib.Core.Path.{◌≡◌, refl, sym, ap, ap₂, ◌∙◌}
use mathlib.Core.Bool.{Bool, true, false, cond}
use mathlib.Core.List.{List, [], ◌∷◌, ◌++◌, append-nil}
use Prim.Native.Nat.{ℕ, zero, suc, ◌+◌, ◌*◌, ◌≤◌, ◌<◌}
use native.Mathlib.Omega.{arith}
use lib.ListN.{length, get_or, set, take, length-append}
use lib.Seq.{get_or-append_seam, set_out}
use Rattle.prelude.specs.Range.{tabulate}
use Rattle.prelude.specs.Filter.{filter}
use Rattle.prelude.specs.Members.{slot_numbers}
use Rattle.prelude.proofs.Choice.{pick_true, pick_false}
use Rattle.prelude.proofs.Lists.{filter_append}
use Rattle.prelude.proofs.Tabulate.{tabulate-length, tabulate_list, set-tabulate}
use Rattle.sorting.proofs.Order.{Compared, low, high, compared}
use Rattle.layout.specs.Line.{first_word}
use Rattle.stores.specs.Store.{Store, zipped}
use Rattle.stores.specs.Play.{word_numbers, values}
use Rattle.stores.specs.Invalidation.{invalidating_store, invalidating_stores}
use Rattle.stores.proofs.Lists.{zipped_back, numbers-length, values_length}
use Rattle.recovery.specs.Invalidation.{invalidations_of, stores_in}
use Rattle.recovery.specs.inner.Judge.{with_store}
use Rattle.recovery.specs.declared.Invalidations.{Invalidations}
use Rattle.recovery.proofs.Rebuilt.{tabulate_alike}

-- ---- one store more

words_more : (ss : List Store) (x : Store) → word_numbers (ss ++ (x ∷ [])) ≡ word_numbers ss ++ (x.word ∷ [])
unfolding word_numbers
words_more [] x = refl
words_more (s ∷ ss) x = ap (λ (t : List ℕ). s.word ∷ t) (words_more ss x)

values_more : (ss : List Store) (x : Store) → values (ss ++ (x ∷ [])) ≡ values ss ++ (x.value ∷ [])
unfolding values
values_more [] x = refl
values_more (s ∷ ss) x = ap (λ (t : List ℕ). s.value ∷ t) (values_more ss x)

-- an entry that is not the last of a list with one more element
not_last : (xs : List ℕ) (x i : ℕ) → (i ≡ length xs → ⊥) → get_or (xs ++ (x ∷ [])) i 0 ≡ get_or xs i 0
not_last [] x zero ne = absurd (ne refl)
not_last [] x (suc i) ne = refl
not_last (y ∷ xs) x zero ne = refl
not_last (y ∷ xs) x (suc i) ne = not_last xs x i (λ e. ne (ap suc e))

-- the first n entries with one more element, zeros past the end
entries_more : (xs : List ℕ) (x n : ℕ) → set (tabulate (λ i. get_or xs i 0) 0 n) (length xs) x ≡ tabulate (λ i. get_or (xs ++ (x ∷ [])) i 0) 0 n
entries_more xs x n = go (compared n (length xs))
  where
    go : Compared n (length xs) → set (tabulate (λ i. get_or xs i 0) 0 n) (length xs) x ≡ tabulate (λ i. get_or (xs ++ (x ∷ [])) i 0) 0 n
    go (high a h) =
        set-tabulate (λ i. get_or xs i 0) (λ i. get_or (xs ++ (x ∷ [])) i 0) n (length xs) x h (get_or-append_seam xs x [] 0) (not_last xs x)
    go (low a h) =
        set_out (tabulate (λ i. get_or xs i 0) 0 n) (length xs) x (omega (arith, tabulate-length (λ i. get_or xs i 0) 0 n))
        ∙ tabulate_alike (λ i. get_or xs i 0) (λ i. get_or (xs ++ (x ∷ [])) i 0) 0 n (λ i u v. sym (not_last xs x i (λ e. omega arith)))

pub with-store : (ss : List Store) (x : Store) → with_store (invalidations_of ss) x ≡ invalidations_of (ss ++ (x ∷ []))
unfolding invalidations_of with_store
with-store ss x =
    ap₂ (λ (at value : List ℕ). record { count = length ss + 1; at = at; value = value }) at_is value_is
    ∙ ap (λ (c : ℕ). record {
      count = c;
      at = tabulate (λ i. get_or (word_numbers (ss ++ (x ∷ []))) i 0) 0 8;
      value = tabulate (λ i. get_or (values (ss ++ (x ∷ []))) i 0) 0 8;
    }) (sym (length-append ss (x ∷ [])))
  where
    at_is : set (tabulate (λ i. get_or (word_numbers ss) i 0) 0 8) (length ss) x.word ≡ tabulate (λ i. get_or (word_numbers (ss ++ (x ∷ []))) i 0) 0 8
    at_is =
        ap (λ (k : ℕ). set (tabulate (λ i. get_or (word_numbers ss) i 0) 0 8) k x.word) (sym (numbers-length ss))
        ∙ entries_more (word_numbers ss) x.word 8
        ∙ ap (λ (t : List ℕ). tabulate (λ i. get_or t i 0) 0 8) (sym (words_more ss x))

    value_is : set (tabulate (λ i. get_or (values ss) i 0) 0 8) (length ss) x.value ≡ tabulate (λ i. get_or (values (ss ++ (x ∷ []))) i 0) 0 8
    value_is =
        ap (λ (k : ℕ). set (tabulate (λ i. get_or (values ss) i 0) 0 8) k x.value) (sym (values_length ss))
        ∙ entries_more (values ss) x.value 8
        ∙ ap (λ (t : List ℕ). tabulate (λ i. get_or t i 0) 0 8) (sym (values_more ss x))

-- ---- the list back

take-tabulate : (g : ℕ → ℕ) (j k n : ℕ) → k ≤ n → take k (tabulate g j n) ≡ tabulate g j k
unfolding tabulate
take-tabulate g j zero n h = refl
take-tabulate g j (suc k) zero h = absurd (omega arith)
take-tabulate g j (suc k) (suc n) h = ap (λ (t : List ℕ). g j ∷ t) (take-tabulate g (suc j) k n (omega arith))

entries_back : (xs : List ℕ) (n : ℕ) → length xs ≤ n → take (length xs) (tabulate (λ i. get_or xs i 0) 0 n) ≡ xs
entries_back xs n h =
    take-tabulate (λ i. get_or xs i 0) 0 (length xs) n h
    ∙ tabulate_list (λ i. get_or xs i 0) xs 0 (λ i l. let z : 0 + i ≡ i = omega arith in ap (λ (k : ℕ). get_or xs k 0) z)

-- at most eight stores come back from their value
pub stores_back : (ss : List Store) → length ss ≤ 8 → stores_in (invalidations_of ss) ≡ ss
unfolding stores_in invalidations_of
stores_back ss h =
    ap₂ zipped
    (ap (λ (k : ℕ). take k (tabulate (λ i. get_or (word_numbers ss) i 0) 0 8)) (sym (numbers-length ss))
    ∙ entries_back (word_numbers ss) 8 (omega (arith, numbers-length ss)))
    (ap (λ (k : ℕ). take k (tabulate (λ i. get_or (values ss) i 0) 0 8)) (sym (values_length ss))
    ∙ entries_back (values ss) 8 (omega (arith, values_length ss)))
    ∙ zipped_back ss

-- ---- slot by slot

pub invalidations_length : (m : ℕ → ℕ) (slots : List ℕ) → length (invalidating_stores m slots) ≡ length slots
unfolding invalidating_stores
invalidations_length m [] = refl
invalidations_length m (s ∷ slots) = ap suc (invalidations_length m slots)

invalidations_append : (m : ℕ → ℕ) (xs : List ℕ) (x : ℕ) → invalidating_stores m (xs ++ (x ∷ [])) ≡ invalidating_stores m xs ++ (invalidating_store m x ∷ [])
unfolding invalidating_stores
invalidations_append m [] x = refl
invalidations_append m (y ∷ xs) x = ap (λ (t : List Store). invalidating_store m y ∷ t) (invalidations_append m xs x)

-- the store of slot s by its mark; the stamp of its line A is word 16 s + 7 of the image
pub invalidating-store : (m : ℕ → ℕ) (s mark stamp : ℕ) → mark ≡ first_word stamp → stamp ≡ m (16 * s + 7)
    → record { word = 16 * s; value = mark } ≡ invalidating_store m s
unfolding invalidating_store
invalidating-store m s mark stamp p q =
    ap (λ (v : ℕ). record { word = 16 * s; value = v }) (p ∙ ap (λ (x : ℕ). first_word x) (q ∙ ap m (omega arith)))

-- o has the stores of the slots below s that pass the test
pub record Invalidation (m : ℕ → ℕ) (p : ℕ → Bool) (n : ℕ) (o : Invalidations) (s : ℕ) : Type 0 where
  pub low : 1 ≤ s
  pub high : s ≤ n + 1
  pub few : o.count < s
  pub done : (k : ℕ) → suc k ≡ s → o ≡ invalidations_of (invalidating_stores m (filter p (slot_numbers k)))

module _ (m : ℕ → ℕ) (p : ℕ → Bool) (n : ℕ) where
  pub invalidating_start : (o : Invalidations) → o ≡ invalidations_of [] → Invalidation m p n o 1
  unfolding invalidating_stores filter slot_numbers invalidations_of
  invalidating_start o e = record { low = omega arith; high = omega arith; few = omega (arith, ap (λ (x : Invalidations). x.count) e); done = go }
    where
      go : (k : ℕ) → suc k ≡ 1 → o ≡ invalidations_of (invalidating_stores m (filter p (slot_numbers k)))
      go zero d = e
      go (suc k) d = absurd (omega arith)

  module _ (o : Invalidations) (s : ℕ) (g : Invalidation m p n o s) (h : s ≤ n) where
    filter_next : (k : ℕ) → filter p (slot_numbers (suc k)) ≡ filter p (slot_numbers k) ++ cond (p (suc k)) (suc k ∷ []) []
    unfolding slot_numbers filter
    filter_next k = filter_append p (slot_numbers k) (suc k ∷ [])

    pub invalidating_more : (next : Invalidations) → p s ≡ true → next ≡ with_store o (invalidating_store m s) → Invalidation m p n next (s + 1)
    unfolding with_store
    invalidating_more next t e =
        record { low = omega arith; high = omega arith; few = omega (arith, g.few, ap (λ (x : Invalidations). x.count) e); done = go }
      where
        go : (k : ℕ) → suc k ≡ s + 1 → next ≡ invalidations_of (invalidating_stores m (filter p (slot_numbers k)))
        go zero d = absurd (omega (arith, g.low))
        go (suc k) d =
            let q : suc k ≡ s = omega arith in
            e ∙ ap₂ (λ (x : Invalidations) (y : ℕ). with_store x (invalidating_store m y)) (g.done k q) (sym q)
            ∙ with-store (invalidating_stores m (filter p (slot_numbers k))) (invalidating_store m (suc k))
            ∙ sym
            (ap (λ (l : List ℕ). invalidations_of (invalidating_stores m l))
            (filter_next k ∙ ap (λ (r : List ℕ). filter p (slot_numbers k) ++ r) (pick_true (p (suc k)) (suc k ∷ []) [] (ap p q ∙ t)))
            ∙ ap invalidations_of (invalidations_append m (filter p (slot_numbers k)) (suc k)))

    pub invalidating_same : (next : Invalidations) → p s ≡ false → next ≡ o → Invalidation m p n next (s + 1)
    invalidating_same next t e =
        record { low = omega arith; high = omega arith; few = omega (arith, g.few, ap (λ (x : Invalidations). x.count) e); done = go }
      where
        go : (k : ℕ) → suc k ≡ s + 1 → next ≡ invalidations_of (invalidating_stores m (filter p (slot_numbers k)))
        go zero d = absurd (omega (arith, g.low))
        go (suc k) d =
            let q : suc k ≡ s = omega arith in
            e ∙ g.done k q
            ∙ ap (λ (l : List ℕ). invalidations_of (invalidating_stores m l))
            (sym
            (filter_next k ∙ ap (λ (r : List ℕ). filter p (slot_numbers k) ++ r) (pick_false (p (suc k)) (suc k ∷ []) [] (ap p q ∙ t))
            ∙ append-nil (filter p (slot_numbers k))))

  pub invalidating_end : (o : Invalidations) (s : ℕ) → Invalidation m p n o s → n < s → o ≡ invalidations_of (invalidating_stores m (filter p (slot_numbers n)))
  invalidating_end o s g h = g.done n (omega (arith, g.high))
