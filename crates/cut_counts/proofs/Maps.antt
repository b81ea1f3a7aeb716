-- The test of maps decides whether they are equal; where each key of one map has its value in the other and both hold as many keys, they are. Assumes nothing.
use mathlib.Core.Path.{◌≡◌, refl, sym, ap, ap₂, ◌∙◌}
use mathlib.Core.Bool.{Bool, true, false, not}
use mathlib.Core.Logic.{inl, inr}
use mathlib.Core.Option.{Option, some, none}
use mathlib.Core.List.{List, [], ◌∷◌}
use Prim.Native.Nat.{ℕ}
use native.Mathlib.Omega.{arith}
use lib.Dec.{eqb}
use borrow.Author.Tests.{eqb-true, eq-eqb, not-true, not-false}
use Rattle.prelude.specs.Range.{any_of}
use Rattle.prelude.specs.Members.{In, Slot}
use Rattle.prelude.proofs.Choice.{true-false, both, both_left, both_right, is_false}
use Rattle.prelude.proofs.Any.{any_none_slot, any_clear_slot}
use Rattle.prelude.proofs.Lists.{in_at, no_longer}
use Rattle.layout.specs.Content.{Table}
use Rattle.table.specs.Table.{key_in, decider, map_of, live, live_count}
use Rattle.prelude.specs.Keys.{Holds, holds}
use Rattle.table.proofs.defs.Keys.{live_keys}
use Rattle.table.proofs.KeyCount.{table_keys, live-keys}
use Rattle.table.proofs.Sharing.{decider_own}
use Rattle.prelude.proofs.Keys.{some-none}
use Rattle.table.proofs.Held.{Held, held, unheld, held_or}
use Rattle.cut_counts.specs.Maps.{EqualMaps, same_bytes, same_value, differ_at, is_same_map, DecidesEqual}

-- ---- one value

pub same-bytes : (v w : List ℕ) → same_bytes v w ≡ true → v ≡ w
unfolding same_bytes
same-bytes [] [] e = refl
same-bytes [] (y ∷ w) e = absurd (true-false e refl)
same-bytes (x ∷ v) [] e = absurd (true-false e refl)
same-bytes (x ∷ v) (y ∷ w) e =
    ap₂ (λ (a : ℕ) (l : List ℕ). a ∷ l) (eqb-true x y (both_left (eqb x y) _ e)) (same-bytes v w (both_right (eqb x y) _ e))

bytes_same : (v : List ℕ) → same_bytes v v ≡ true
unfolding same_bytes
bytes_same [] = refl
bytes_same (x ∷ v) = both (eqb x x) _ (eq-eqb x x refl) (bytes_same v)

pub equal_bytes : (v w : List ℕ) → v ≡ w → same_bytes v w ≡ true
equal_bytes v w e = ap (same_bytes v) (sym e) ∙ bytes_same v

pub same-value : (o p : Option (List ℕ)) → same_value o p ≡ true → o ≡ p
unfolding same_value
same-value none none e = refl
same-value none (some w) e = absurd (true-false e refl)
same-value (some v) none e = absurd (true-false e refl)
same-value (some v) (some w) e = ap some (same-bytes v w e)

pub value_same : (o : Option (List ℕ)) → same_value o o ≡ true
unfolding same_value
value_same none = refl
value_same (some v) = bytes_same v

module _ (f : Table) (n : ℕ) (g : Table) (m k : ℕ) where
  agree : differ_at f n g m k ≡ false → map_of f n k ≡ map_of g m k
  unfolding differ_at
  agree e = same-value (map_of f n k) (map_of g m k) (not-false _ e)

  agreed : map_of f n k ≡ map_of g m k → differ_at f n g m k ≡ false
  unfolding differ_at
  agreed e = ap not (ap (same_value (map_of f n k)) (sym e) ∙ value_same (map_of f n k))

-- ---- all keys

-- a test that no slot passes
clear : (p : ℕ → Bool) (n : ℕ) → not (any_of p 1 n) ≡ true → (s : ℕ) → Slot n s → p s ≡ false
clear p n e s i = any_none_slot p n (not-true _ e) s i

module _ (f : Table) (n : ℕ) (g : Table) (m : ℕ) where
  -- at the key of each live slot of f the maps agree
  abbrev Within : Type 0
  Within = (s : ℕ) → Slot n s → live f n s ≡ true → map_of f n (key_in (f s)) ≡ map_of g m (key_in (f s))

  -- so they do where f holds the key
  within_held : Within → (k : ℕ) → Slot n (decider f n k) → live f n (decider f n k) ≡ true → map_of f n k ≡ map_of g m k
  within_held h k i e =
      let own = decider_own f n k i e in
      ap (map_of f n) (sym own) ∙ h (decider f n k) i e ∙ ap (map_of g m) own

  same_holds : (k : ℕ) → map_of f n k ≡ map_of g m k → Holds (map_of f n) k → Holds (map_of g m) k
  same_holds k e (holds v q) = holds v (sym e ∙ q)

  -- a key that g alone holds: g holds more keys
  one_more : Within → (k : ℕ) → map_of f n k ≡ none → Holds (map_of g m) k → live_count f n ≡ live_count g m → ⊥
  one_more h k none_there there e =
      omega (
        arith,
        no_longer (k ∷ live_keys f n) (live_keys g m) ((λ i. apart ((table_keys f n).held k i)), (table_keys f n).once) listed,
        live-keys f n (map_of f n) (λ j. refl) (live_keys f n) (table_keys f n),
        live-keys g m (map_of g m) (λ j. refl) (live_keys g m) (table_keys g m),
      )
    where
      apart : Holds (map_of f n) k → ⊥
      apart (holds v q) = some-none q none_there

      both_hold : (t : ℕ) → Holds (map_of f n) t → Held f n t → Holds (map_of g m) t
      both_hold t a (held v i d q) = same_holds t (within_held h t i d) a
      both_hold t (holds v q) (unheld a d) = absurd (some-none q d)

      listed : (t : ℕ) → In t (k ∷ live_keys f n) → In t (live_keys g m)
      listed t (inl q) = in_at k t (live_keys g m) (sym q) ((table_keys g m).all k there)
      listed t (inr i) = let a = (table_keys f n).held t i in (table_keys g m).all t (both_hold t a (held_or f n t))

  -- AS MANY KEYS, each of f's with its value in g: equal maps
  within_equal : Within → live_count f n ≡ live_count g m → EqualMaps f n g m
  within_equal h e k = go (held_or f n k) (held_or g m k)
    where
      go : Held f n k → Held g m k → map_of f n k ≡ map_of g m k
      go (held v i d q) r = within_held h k i d
      go (unheld a q) (unheld b r) = q ∙ sym r
      go (unheld a q) (held v i d r) = absurd (one_more h k q (holds v r) e)

  -- equal maps hold as many keys
  equal_counts : EqualMaps f n g m → live_count f n ≡ live_count g m
  equal_counts e =
      live-keys f n (map_of g m) e (live_keys g m) (table_keys g m)
      ∙ sym (live-keys g m (map_of g m) (λ k. refl) (live_keys g m) (table_keys g m))

  -- ---- the test

  same_equal : is_same_map f n g m ≡ true → EqualMaps f n g m
  unfolding is_same_map
  same_equal e k = go (held_or f n k) (held_or g m k)
    where
      first : (s : ℕ) → Slot n s → map_of f n (key_in (f s)) ≡ map_of g m (key_in (f s))
      first s i =
          agree f n g m (key_in (f s)) (clear (λ t. differ_at f n g m (key_in (f t))) n
          (both_left (not (any_of (λ t. differ_at f n g m (key_in (f t))) 1 n)) _ e) s
          i)

      second : (s : ℕ) → Slot m s → map_of f n (key_in (g s)) ≡ map_of g m (key_in (g s))
      second s i =
          agree f n g m (key_in (g s)) (clear (λ t. differ_at f n g m (key_in (g t))) m
          (both_right (not (any_of (λ t. differ_at f n g m (key_in (f t))) 1 n)) _ e) s
          i)

      go : Held f n k → Held g m k → map_of f n k ≡ map_of g m k
      go (held v i d q) r = within_held (λ s j a. first s j) k i d
      go (unheld a q) (unheld b r) = q ∙ sym r
      go (unheld a q) (held v i d r) =
          let own = decider_own g m k i d in ap (map_of f n) (sym own) ∙ second (decider g m k) i ∙ ap (map_of g m) own

  equal_same : EqualMaps f n g m → is_same_map f n g m ≡ true
  unfolding is_same_map
  equal_same e =
      both _ _ (ap not (any_clear_slot _ n (λ s i. agreed f n g m (key_in (f s)) (e (key_in (f s))))))
      (ap not (any_clear_slot _ m (λ s i. agreed f n g m (key_in (g s)) (e (key_in (g s))))))

  -- THE TEST DECIDES
  pub decides_equal : DecidesEqual f n g m
  decides_equal = record { equal = same_equal; test = equal_same }

  -- ---- by the live counts and the keys that f's slots have; `keys` gives them, and those of live slots are its records'

  pub counts_apart : (a b : ℕ) → a ≡ live_count f n → b ≡ live_count g m → (a ≡ b → ⊥) → false ≡ is_same_map f n g m
  counts_apart a b p q ne = sym (is_false _ (λ t. ne (p ∙ equal_counts (same_equal t) ∙ sym q)))

  pub keys_apart : (key : ℕ) (r : Bool) → r ≡ differ_at f n g m key → r ≡ true → false ≡ is_same_map f n g m
  keys_apart key r e t = sym (is_false _ (λ s. true-false t (e ∙ agreed f n g m key (same_equal s key))))

  pub keys_agree : (keys : ℕ → ℕ) → ((s : ℕ) → live f n s ≡ true → key_in (f s) ≡ keys s) → (a b : ℕ) → a ≡ live_count f n → b ≡ live_count g m → a ≡ b
      → ((s : ℕ) → Slot n s → differ_at f n g m (keys s) ≡ false) → true ≡ is_same_map f n g m
  keys_agree keys own a b p q e h =
      sym
      (equal_same
      (within_equal
      (λ s i d. ap (map_of f n) (own s d) ∙ agree f n g m (keys s) (h s i) ∙ sym (ap (map_of g m) (own s d)))
      (sym p ∙ e ∙ q)))
