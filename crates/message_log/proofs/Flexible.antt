-- THE FLEXIBLE BIT: the bit that a bit_pair names matches when all the line's stores stand, and differs when one is missing, whatever stood there.
-- And the pairs_word that a word holds_message. Assumes nothing.
use mathlib.Core.Path.{◌≡◌, refl, sym, ap, ap₂, ◌∙◌, subst}
use mathlib.Core.Bool.{true, false, not}
use mathlib.Core.Logic.{◌⊎◌, inl, inr, by_cases}
use Prim.Native.Nat.{ℕ, zero, suc, ◌+◌, ◌*◌, ◌/◌, ◌%◌, ◌^◌, ◌≤◌, ◌<◌}
use native.Mathlib.Nat.{pow-suc, pow-succ', div-one, div-div-eq-div-mul}
use native.Mathlib.Decide.{dec_lt, ℕ_discrete}
use native.Mathlib.Omega.{arith}
use lib.Dec.{eqb}
use lib.Bits.{bit_xor}
use lib.Count.{count_trailing_zeros}
use borrow.Author.Tests.{eqb-true, eqb-false, eq-eqb, ne_eqb}
use Rattle.prelude.proofs.Choice.{pick_true, pick_false, split}
use Rattle.message_log.specs.Bit.{bit_at, line_bit, differing_place, store_count, position_at, bit_position, bit_pair, packed, pair_in}
use Rattle.message_log.specs.Message.{bit_differs}
use Rattle.message_log.proofs.Differences.{DifferAt, bit_low, last_differs, last_place}

-- ---- the search

-- "words 0 up to that one", or none
pub count_none : (place : ℕ) → place ≡ 8 → store_count place ≡ 0
unfolding store_count
count_none place e = pick_true (eqb place 8) _ _ (eq-eqb place 8 e)

pub count_some : (place : ℕ) → (place ≡ 8 → ⊥) → store_count place ≡ suc place
unfolding store_count
count_some place ne = pick_false (eqb place 8) _ _ (ne_eqb place 8 ne)

count_place : (place j : ℕ) → store_count place ≡ suc j → place ≡ j
count_place place j e =
    by_cases (ℕ_discrete place 8) (λ (q : place ≡ 8). absurd (omega (arith, e, count_none place q)))
    (λ (ne : place ≡ 8 → ⊥). omega (arith, e, count_some place ne))

module _ (old new : ℕ → ℕ) where
  same : (j : ℕ) → eqb (old j) (new j) ≡ true → differing_place (suc j) old new ≡ differing_place j old new
  unfolding differing_place
  same j e = pick_true (eqb (old j) (new j)) _ _ e

  other : (j : ℕ) → eqb (old j) (new j) ≡ false → differing_place (suc j) old new ≡ j
  unfolding differing_place
  other j e = pick_false (eqb (old j) (new j)) _ _ e

  pub none_left : differing_place 0 old new ≡ 8
  unfolding differing_place
  none_left = refl

  -- what the loop from word 7 down uses: an equal word is passed, and one that differs ends it
  pub passed : (j k : ℕ) → j ≡ suc k → old k ≡ new k → differing_place j old new ≡ differing_place k old new
  passed j k q e = ap (λ (x : ℕ). differing_place x old new) q ∙ same k (eq-eqb (old k) (new k) e)

  pub ended : (j k : ℕ) → j ≡ suc k → (old k ≡ new k → ⊥) → differing_place j old new ≡ k
  ended j k q e = ap (λ (x : ℕ). differing_place x old new) q ∙ other k (ne_eqb (old k) (new k) e)

  -- what is found among the first n words
  data Found (n place : ℕ) : Type 0 where
    none_differs : place ≡ 8 → ((i : ℕ) → i < n → old i ≡ new i) → Found n place
    differs : place < n → (old place ≡ new place → ⊥) → ((i : ℕ) → place < i → i < n → old i ≡ new i) → Found n place

  found : (n : ℕ) → Found n (differing_place n old new)
  found zero = none_differs none_left (λ i h. absurd (omega arith))
  found (suc n) = go (found n) (split (eqb (old n) (new n)))
    where
      up : (i : ℕ) → (i < n → old i ≡ new i) → old n ≡ new n → i < suc n → old i ≡ new i
      up i below top h = by_cases (dec_lt i n) below (λ l. subst (λ (x : ℕ). old x ≡ new x) (let z : n ≡ i = omega arith in z) top)

      go : Found n (differing_place n old new) → (eqb (old n) (new n) ≡ true) ⊎ (eqb (old n) (new n) ≡ false) → Found (suc n) (differing_place (suc n) old new)
      go (none_differs p all) (inl e) =
          none_differs (same n e ∙ p) (λ i. up i (all i) (eqb-true (old n) (new n) e))
      go (differs p apart above) (inl e) =
          subst (Found (suc n)) (sym (same n e))
          (differs (omega arith) apart
          (λ i l. up i (above i l) (eqb-true (old n) (new n) e)))
      go f (inr e) = subst (Found (suc n)) (sym (other n e)) (differs (omega arith) (eqb-false (old n) (new n) e) (λ i l h. absurd (omega arith)))

  pub place_within : differing_place 8 old new ≤ 8
  place_within = go (found 8)
    where
      go : Found 8 (differing_place 8 old new) → differing_place 8 old new ≤ 8
      go (none_differs p all) = omega arith
      go (differs p apart above) = omega arith

  -- the word at the place differs
  pub place_apart : (j : ℕ) → differing_place 8 old new ≡ j → (j ≡ 8 → ⊥) → old j ≡ new j → ⊥
  place_apart j e ne = go (subst (Found 8) e (found 8))
    where
      go : Found 8 j → old j ≡ new j → ⊥
      go (none_differs p all) = absurd (ne p)
      go (differs p apart above) = apart

  pub count_within : store_count (differing_place 8 old new) ≤ 8
  count_within = go (found 8)
    where
      go : Found 8 (differing_place 8 old new) → store_count (differing_place 8 old new) ≤ 8
      go (none_differs p all) = omega (arith, count_none _ p)
      go (differs p apart above) = omega (arith, count_some _ (λ (q : differing_place 8 old new ≡ 8). omega arith))

  -- words from the count on are equal
  pub count-equal : (i : ℕ) → store_count (differing_place 8 old new) ≤ i → i < 8 → old i ≡ new i
  count-equal i h l = go (found 8)
    where
      go : Found 8 (differing_place 8 old new) → old i ≡ new i
      go (none_differs p all) = all i l
      go (differs p apart above) = above i (omega (arith, h, count_some _ (λ (q : differing_place 8 old new ≡ 8). omega arith))) l

  -- the word below the count differs
  pub count_apart : (j : ℕ) → store_count (differing_place 8 old new) ≡ suc j → old j ≡ new j → ⊥
  count_apart j e = place_apart j (count_place _ j e) (λ (q : j ≡ 8). omega (arith, e, count_within))

-- ---- bit_position and bit_pair

module _ (old new : ℕ → ℕ) where
  pub position_none : differing_place 8 old new ≡ 8 → bit_position old new ≡ 0
  unfolding bit_position position_at
  position_none e = pick_true (eqb (differing_place 8 old new) 8) _ _ (eq-eqb (differing_place 8 old new) 8 e)

  pub position_some : (j : ℕ) → differing_place 8 old new ≡ j → (j ≡ 8 → ⊥) → bit_position old new ≡ 64 * j + count_trailing_zeros 64 (bit_xor (old j) (new j))
  unfolding bit_position position_at
  position_some j e ne = ap (λ (k : ℕ). position_at k old new) e ∙ pick_false (eqb j 8) _ _ (ne_eqb j 8 ne)

module _ (old new : ℕ → ℕ) (old-fits : (j : ℕ) → j < 8 → old j < 2 ^ 64) (new-fits : (j : ℕ) → j < 8 → new j < 2 ^ 64) where
  -- the place of the bit in word j, where that is the highest that differs
  abbrev tz : ℕ → ℕ
  tz j = count_trailing_zeros 64 (bit_xor (old j) (new j))

  tz_low : (j : ℕ) → differing_place 8 old new ≡ j → (j ≡ 8 → ⊥) → tz j < 64
  tz_low j e ne =
      let h : j < 8 = omega (arith, place_within old new) in
      last_place 64 (old j) (new j) (old-fits j h) (new-fits j h) (place_apart old new j e ne)

  pub position_low : bit_position old new < 512
  position_low =
      by_cases (ℕ_discrete (differing_place 8 old new) 8) (λ (e : differing_place 8 old new ≡ 8). omega (arith, position_none old new e))
      (λ (ne : differing_place 8 old new ≡ 8 → ⊥). omega (arith, position_some old new _ refl ne, tz_low _ refl ne, place_within old new))

  pub pair_position : bit_pair old new % 512 ≡ bit_position old new
  unfolding bit_pair
  pair_position = omega (arith, position_low, bit_low (new (bit_position old new / 64)) (bit_position old new % 64))

  pub pair_value : bit_pair old new / 512 ≡ line_bit new (bit_position old new)
  unfolding bit_pair
  pair_value = omega (arith, position_low, bit_low (new (bit_position old new / 64)) (bit_position old new % 64))

  pub pair_low : bit_pair old new < 1024
  unfolding bit_pair
  pair_low = omega (arith, position_low, bit_low (new (bit_position old new / 64)) (bit_position old new % 64))

  module _ (w i : ℕ) (held : pair_in w i ≡ bit_pair old new) (now : ℕ → ℕ) where
    named : bit_differs w now i ≡ not (eqb (line_bit now (bit_position old new)) (line_bit new (bit_position old new)))
    unfolding bit_differs
    named =
        ap₂ (λ (p v : ℕ). not (eqb (line_bit now p) v)) (ap (λ (x : ℕ). x % 512) held ∙ pair_position) (ap (λ (x : ℕ). x / 512) held ∙ pair_value)

    -- THE LEMMA, one way: with all its stores the line's bit matches
    pub bit_matches : ((j : ℕ) → j < 8 → now j ≡ new j) → bit_differs w now i ≡ false
    bit_matches all =
        named ∙ ap not (eq-eqb _ _ (ap (λ (x : ℕ). bit_at x (bit_position old new % 64)) (all (bit_position old new / 64) (omega (arith, position_low)))))

    -- the other: while the last of them is missing it differs
    pub bit-differs : (j : ℕ) → store_count (differing_place 8 old new) ≡ suc j → now j ≡ old j → bit_differs w now i ≡ true
    bit-differs j e kept =
        named ∙ ap not (ne_eqb _ _ (λ (q : line_bit now (bit_position old new) ≡ line_bit new (bit_position old new)). apart (sym now_bit ∙ q ∙ new_bit)))
      where
        at : differing_place 8 old new ≡ j
        at = count_place (differing_place 8 old new) j e

        some : j ≡ 8 → ⊥
        some q = omega (arith, e, count_within old new)

        word_at : bit_position old new / 64 ≡ j
        word_at = omega (arith, position_some old new j at some, tz_low j at some)

        place_at : bit_position old new % 64 ≡ tz j
        place_at = omega (arith, position_some old new j at some, tz_low j at some)

        now_bit : line_bit now (bit_position old new) ≡ bit_at (old j) (tz j)
        now_bit = ap₂ (λ (x y : ℕ). bit_at (now x) y) word_at place_at ∙ ap (λ (x : ℕ). bit_at x (tz j)) kept

        new_bit : line_bit new (bit_position old new) ≡ bit_at (new j) (tz j)
        new_bit = ap₂ (λ (x y : ℕ). bit_at (new x) y) word_at place_at

        apart : DifferAt (old j) (new j) (tz j)
        apart =
            let h : j < 8 = omega (arith, e, count_within old new) in
            last_differs 64 (old j) (new j) (old-fits j h) (new-fits j h) (count_apart old new j e)

-- ---- the pairs_word of a word

module _ (f : ℕ → ℕ) (low : (i : ℕ) → f i < 1024) where
  pub packed_low : (k n : ℕ) → packed f k n < 1024 ^ n
  unfolding packed
  packed_low k zero = omega arith
  packed_low k (suc n) = omega (arith, packed_low (suc k) n, low k, pow-suc 1024 n)

  -- bit_pair i is the one that was packed there
  pub packed_pair : (k n i : ℕ) → i < n → pair_in (packed f k n) i ≡ f (k + i)
  unfolding packed pair_in
  packed_pair k zero i h = absurd (omega arith)
  packed_pair k (suc n) zero h =
      ap (λ (x : ℕ). x % 1024) (div-one (f k + 1024 * packed f (suc k) n)) ∙ first ∙ ap f start
    where
      first : (f k + 1024 * packed f (suc k) n) % 1024 ≡ f k
      first = omega (arith, low k)

      start : k ≡ k + 0
      start = omega arith
  packed_pair k (suc n) (suc i) h =
      ap (λ (x : ℕ). (f k + 1024 * packed f (suc k) n) / x % 1024) (pow-succ' 1024 i)
      ∙ ap (λ (x : ℕ). x % 1024) (sym (div-div-eq-div-mul (f k + 1024 * packed f (suc k) n) 1024 (1024 ^ i)))
      ∙ ap (λ (x : ℕ). x / 1024 ^ i % 1024) rest
      ∙ packed_pair (suc k) n i (omega arith) ∙ ap f (omega arith)
    where
      rest : (f k + 1024 * packed f (suc k) n) / 1024 ≡ packed f (suc k) n
      rest = omega (arith, low k)
