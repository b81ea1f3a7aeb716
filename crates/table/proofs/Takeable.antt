-- The slots that may be taken: their loss changes no key. Assumes nothing.
use mathlib.Core.Path.{◌≡◌, refl, sym, ap, ap₂, ◌∙◌}
use mathlib.Core.Bool.{Bool, true, false, not, ◌&&◌}
use Prim.Native.Nat.{ℕ, suc, ◌≤◌, ◌<◌}
use native.Mathlib.Omega.{arith}
use lib.Dec.{eqb, ltb}
use borrow.Author.Tests.{eqb-true, ltb-true, eq-eqb, lt-ltb, not-true, ltb-false}
use Rattle.layout.specs.Content.{Table, highest_whole_in, Content, remove_record}
use Rattle.prelude.specs.Members.{Slot}
use Rattle.prelude.specs.Range.{topmost, any_of}
use Rattle.prelude.proofs.Any.{any_none_slot, passing, Passing, passes, none_passes, any_clear_slot}
use Rattle.prelude.proofs.Choice.{both, both_left, both_right, pick_true, pick_false, is_false, true-false, false_left, false_right}
use Rattle.prelude.proofs.Most.{greatest_above, greatest_least, first_is, First, nowhere, there}
use Rattle.table.specs.Table.{is_record, key_in, rank_for_key, live, decider, spare}
use Rattle.table.specs.Takeable.{older, highest_valid, valid_version, may_take, is_remove, takeable_if}
use Rattle.table.proofs.defs.Write.{ApartByKey, Free}
use Rattle.table.proofs.Map.{live_is, Decided, Live, lives, decider_is, decider_weight, is_live, decider_newest}
use Rattle.table.proofs.OneSlot.{weight_counts, weight_key, weight_version, record_weight, one-key, weight_put, zero_or, says, Says, puts, removes}

module _ (f : Table) where
  -- slot t has an older valid record of the key of slot s
  pub older_record : (s t : ℕ) → older f s t ≡ true → is_record (f t) ≡ true
  unfolding older
  older_record s t o = both_left (is_record (f t)) _ o

  pub older_key : (s t : ℕ) → older f s t ≡ true → key_in (f t) ≡ key_in (f s)
  unfolding older
  older_key s t o =
      eqb-true (key_in (f t)) (key_in (f s)) (both_left (eqb (key_in (f t)) (key_in (f s))) _ (both_right (is_record (f t)) _ o))

  pub older_below : (s t : ℕ) → older f s t ≡ true → highest_whole_in (f t) < highest_whole_in (f s)
  unfolding older
  older_below s t o =
      ltb-true (highest_whole_in (f t)) (highest_whole_in (f s)) (both_right (eqb (key_in (f t)) (key_in (f s))) _ (both_right (is_record (f t)) _ o))

  pub is_older : (s t : ℕ) → is_record (f t) ≡ true → key_in (f t) ≡ key_in (f s) → highest_whole_in (f t) < highest_whole_in (f s) → older f s t ≡ true
  unfolding older
  is_older s t r k l =
      both (is_record (f t)) _ r (both (eqb (key_in (f t)) (key_in (f s))) _ (eq-eqb (key_in (f t)) (key_in (f s)) k)
      (lt-ltb (highest_whole_in (f t)) (highest_whole_in (f s)) l))

-- by the contents of the two slots alone
pub older_same : (f f' : Table) (s t : ℕ) → f' s ≡ f s → f' t ≡ f t → older f' s t ≡ older f s t
unfolding older
older_same f f' s t e d =
    ap₂ (λ (c o : Content). is_record o && (eqb (key_in o) (key_in c) && ltb (highest_whole_in o) (highest_whole_in c))) e d

module _ (f : Table) (n : ℕ) where
  pub highest_valid_above : (t : ℕ) → Slot n t → is_record (f t) ≡ true → highest_whole_in (f t) ≤ highest_valid f n
  unfolding highest_valid valid_version
  highest_valid_above t i c = omega (arith, greatest_above (λ s. valid_version (f s)) n t i, pick_true (is_record (f t)) (highest_whole_in (f t)) 0 c)

  pub highest_valid_least : (m : ℕ) → ((t : ℕ) → Slot n t → is_record (f t) ≡ true → highest_whole_in (f t) ≤ m) → highest_valid f n ≤ m
  unfolding highest_valid valid_version
  highest_valid_least m h = greatest_least (λ s. valid_version (f s)) n m (λ t i. go t i (is_record (f t)) refl)
    where
      go : (t : ℕ) → Slot n t → (b : Bool) → is_record (f t) ≡ b → valid_version (f t) ≤ m
      go t i true e = omega (arith, pick_true (is_record (f t)) (highest_whole_in (f t)) 0 e, h t i e)
      go t i false e = omega (arith, pick_false (is_record (f t)) (highest_whole_in (f t)) 0 e)

  -- some valid slot is above version v
  pub data Higher (v : ℕ) : Type 0 where
    higher : (t : ℕ) → Slot n t → is_record (f t) ≡ true → v < highest_whole_in (f t) → Higher v

  below_highest : (v : ℕ) → v < highest_valid f n → Higher v
  unfolding highest_valid valid_version
  below_highest v l = go (first_is (λ s. valid_version (f s)) n)
    where
      at : (s : ℕ) → Slot n s → v < valid_version (f s) → (b : Bool) → is_record (f s) ≡ b → Higher v
      at s i p true e = higher s i e (omega (arith, pick_true (is_record (f s)) (highest_whole_in (f s)) 0 e))
      at s i p false e = absurd (omega (arith, pick_false (is_record (f s)) (highest_whole_in (f s)) 0 e))

      go : First (λ s. valid_version (f s)) n (topmost (λ s. valid_version (f s)) n) → Higher v
      go (nowhere e h) = absurd (omega (arith, greatest_least (λ s. valid_version (f s)) n 0 (λ t i. omega (arith, h t i))))
      go (there i p h b) =
          at (topmost (λ s. valid_version (f s)) n) i (omega (arith, greatest_least (λ s. valid_version (f s)) n _ h))
          (is_record (f (topmost (λ s. valid_version (f s)) n))) refl

  module _ (s : ℕ) (may : may_take f n s ≡ true) where
    tests : is_record (f s) ≡ true → ltb (highest_whole_in (f s)) (highest_valid f n) && not (is_remove (f s) && any_of (older f s) 1 n) ≡ true
    unfolding may_take takeable_if
    tests c = sym (pick_true (is_record (f s)) _ _ c) ∙ may

    -- a valid slot that may be taken is not "of the highest valid version"
    pub may_higher : is_record (f s) ≡ true → Higher (highest_whole_in (f s))
    may_higher c = below_highest (highest_whole_in (f s)) (ltb-true (highest_whole_in (f s)) (highest_valid f n) (both_left _ _ (tests c)))

    -- nor is it a remove record while an older valid record of its key remains
    pub may_newest : (w k : ℕ) → f s ≡ remove_record w k → (t : ℕ) → Slot n t → 0 < rank_for_key k (f t) → rank_for_key k (f s) ≤ rank_for_key k (f t)
    unfolding is_record is_remove
    may_newest w k e t i p = go (ltb (rank_for_key k (f t)) (rank_for_key k (f s))) refl
      where
        none_older : any_of (older f s) 1 n ≡ false
        none_older =
            is_false (any_of (older f s) 1 n) (λ a. true-false (both (is_remove (f s)) (any_of (older f s) 1 n) (ap is_remove e) a)
            (not-true (is_remove (f s) && any_of (older f s) 1 n) (both_right (ltb (highest_whole_in (f s)) (highest_valid f n)) _ (tests (ap is_record e)))))

        old : rank_for_key k (f t) < rank_for_key k (f s) → older f s t ≡ true
        old l =
            is_older f s t (weight_counts k (f t) p) (weight_key k (f t) p ∙ sym (weight_key k (f s) (omega arith)))
            (omega (arith, weight_version k (f t) p, weight_version k (f s) (omega arith)))

        go : (b : Bool) → ltb (rank_for_key k (f t)) (rank_for_key k (f s)) ≡ b → rank_for_key k (f s) ≤ rank_for_key k (f t)
        go false l = ltb-false (rank_for_key k (f t)) (rank_for_key k (f s)) l
        go true l =
            absurd (true-false (old (ltb-true (rank_for_key k (f t)) (rank_for_key k (f s)) l)) (any_none_slot (older f s) n none_older t i))

module _ (f : Table) (n : ℕ) where
  -- an older record of a key is not live
  pub older_idle : (s t : ℕ) → Slot n s → is_record (f s) ≡ true → older f s t ≡ true → live f n t ≡ false
  older_idle s t i p o = is_false (live f n t) (λ a. go (live_is f n t a))
    where
      newer : rank_for_key (key_in (f s)) (f s) ≡ suc (highest_whole_in (f s))
      newer = record_weight (f s) (key_in (f s)) p refl

      own : rank_for_key (key_in (f s)) (f t) ≡ suc (highest_whole_in (f t))
      own = record_weight (f t) (key_in (f s)) (older_record f s t o) (older_key f s t o)

      by : decider f n (key_in (f s)) ≡ t → Decided f n (key_in (f s)) (decider f n (key_in (f s))) → ⊥
      by d (nowhere z h) = omega (arith, h s i, newer)
      by d (there k x h y) = omega (arith, h s i, ap (λ (r : ℕ). rank_for_key (key_in (f s)) (f r)) d, newer, own, older_below f s t o)

      go : Live f n t → ⊥
      go (lives u c v r d) =
          by (ap (decider f n) (sym (one-key c (key_in (f s)) (f t) (omega (arith, ap (rank_for_key c) r, weight_put u c v)) (omega (arith, own)))) ∙ d)
          (decider_is f n (key_in (f s)))

  -- why a slot may not be taken
  pub data Barred (s : ℕ) : Type 0 where
    of_highest : is_record (f s) ≡ true → highest_whole_in (f s) ≡ highest_valid f n → Barred s
    has_older : is_record (f s) ≡ true → is_remove (f s) ≡ true → (t : ℕ) → Slot n t → older f s t ≡ true → Barred s

  pub barred : (s : ℕ) → Slot n s → may_take f n s ≡ false → Barred s
  unfolding may_take takeable_if
  barred s i e = go (is_record (f s)) refl (ltb (highest_whole_in (f s)) (highest_valid f n)) refl (is_remove (f s)) refl (passing (older f s) n)
    where
      hides : Bool
      hides = is_remove (f s) && any_of (older f s) 1 n

      may : is_record (f s) ≡ true → ltb (highest_whole_in (f s)) (highest_valid f n) ≡ true → hides ≡ false → Barred s
      may r l h =
          absurd (true-false (pick_true (is_record (f s)) _ true r ∙ both (ltb (highest_whole_in (f s)) (highest_valid f n)) (not hides) l (ap not h)) e)

      go : (x : Bool) → is_record (f s) ≡ x → (y : Bool) → ltb (highest_whole_in (f s)) (highest_valid f n) ≡ y → (z : Bool) → is_remove (f s) ≡ z
          → Passing (older f s) n → Barred s
      go false r y l z m a = absurd (true-false (pick_false (is_record (f s)) (ltb (highest_whole_in (f s)) (highest_valid f n) && not hides) true r) e)
      go true r false l z m a = of_highest r (omega (arith, ltb-false (highest_whole_in (f s)) (highest_valid f n) l, highest_valid_above f n s i r))
      go true r true l false m a = may r l (false_left (is_remove (f s)) _ m)
      go true r true l true m (passes t j o) = has_older r m t j o
      go true r true l true m (none_passes h) = may r l (false_right (is_remove (f s)) _ (any_clear_slot (older f s) n h))

-- a slot of the highest valid version may not be taken
pub highest_barred : (f : Table) (n s : ℕ) → is_record (f s) ≡ true → highest_whole_in (f s) ≡ highest_valid f n → may_take f n s ≡ false
highest_barred f n s r e = is_false (may_take f n s) (λ may. go (may_higher f n s may r))
  where
    go : Higher f n (highest_whole_in (f s)) → ⊥
    go (higher t i q l) = omega (arith, highest_valid_above f n t i q)

-- ANY SET OF SPARE SLOTS THAT MAY BE TAKEN MAY BE LOST: none is live, and one that decides its key is that key's only record
pub may_free : (f : Table) (n : ℕ) (C : ℕ → Bool) → ApartByKey f n → ((s : ℕ) → C s ≡ true → Slot n s) → ((s : ℕ) → C s ≡ true → live f n s ≡ false)
    → ((s : ℕ) → C s ≡ true → may_take f n s ≡ true) → Free f n C
may_free f n C d slot spare may = record { spare = λ s i c. spare s c; alone = λ k t b i e. zero_or (rank_for_key k (f t)) (λ p. after k t b i e p) }
  where
    after : (k t : ℕ) → C (decider f n k) ≡ true → Slot n t → C t ≡ false → 0 < rank_for_key k (f t) → ⊥
    after k t b i e p = go (says k (f (decider f n k)) (decider_weight f n k (decider f n k) (slot (decider f n k) b) refl))
      where
        go : Says k (f (decider f n k)) → ⊥
        go (puts w v q) = true-false (is_live f n (decider f n k) (lives w k v q refl)) (spare (decider f n k) b)
        go (removes w q) =
            omega (
              arith,
              may_newest f n (decider f n k) (may (decider f n k) b) w k q t i p,
              decider_newest f n k (decider f n k) t d (slot (decider f n k) b) i refl (λ z. true-false b (sym (ap C z) ∙ e)),
            )
