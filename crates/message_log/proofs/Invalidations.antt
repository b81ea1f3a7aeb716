-- THE RECOVERY LAW on words: recovery's stores, whichever of them stand, open marked lines above h and change nothing
-- else; with all of them no whole marked line is above h.
-- Assumes nothing.
use mathlib.Core.Path.{◌≡◌, refl, sym, ap, ap₂, ◌∙◌, subst}
use mathlib.Core.Bool.{true, false}
use mathlib.Core.Logic.{◌⊎◌, inl, inr, by_cases}
use mathlib.Core.List.{List, [], ◌∷◌}
use Prim.Native.Nat.{ℕ, zero, suc, ◌+◌, ◌*◌, ◌/◌, ◌%◌, ◌≤◌, ◌<◌}
use native.Mathlib.Decide.{dec_lt}
use native.Mathlib.Omega.{arith}
use lib.ListN.{length, take}
use lib.Seq.{take-nil}
use lib.Dec.{eqb}
use borrow.Author.Tests.{eqb-true, eqb-false, eq-eqb, ne_eqb, lt-ltb}
use Rattle.prelude.proofs.Choice.{pick_true, pick_false, split, true-false, both}
use Rattle.layout.specs.Line.{whole, version_of, first_word}
use Rattle.stores.specs.Store.{Store, stored, played_words, on_line}
use Rattle.stores.specs.Cut.{after_cut}
use Rattle.stores.proofs.StandingStores.{on_hit, on_miss, cut_at, line_out, line_none}
use Rattle.message_log.specs.Area.{marked_line, payload_line}
use Rattle.message_log.specs.Message.{highest}
use Rattle.message_log.specs.Recover.{is_above, invalidation, invalidations, recovery_stores}
use Rattle.message_log.proofs.Cells.{SameCell}

-- ---- which stores are on which line

module _ (m : ℕ → ℕ) (h : ℕ) where
  pub opens : (k n : ℕ) → is_above m h k ≡ true → invalidations m h k (suc n) ≡ invalidation m k ∷ invalidations m h (suc k) n
  unfolding invalidations
  opens k n e = pick_true (is_above m h k) _ _ e

  pub passes : (k n : ℕ) → is_above m h k ≡ false → invalidations m h k (suc n) ≡ invalidations m h (suc k) n
  unfolding invalidations
  passes k n e = pick_false (is_above m h k) _ _ e

  open_none : (n k j : ℕ) → ((c : ℕ) → k ≤ c → c < k + j → is_above m h c ≡ true → 7 * c ≡ n → ⊥) → on_line n (invalidations m h k j) ≡ []
  unfolding on_line invalidations
  open_none n k zero f = refl
  open_none n k (suc j) f = go (open_none n (suc k) j (λ c p q. f c (omega arith) (omega arith))) (split (is_above m h k))
    where
      go : on_line n (invalidations m h (suc k) j) ≡ [] → (is_above m h k ≡ true) ⊎ (is_above m h k ≡ false) → on_line n (invalidations m h k (suc j)) ≡ []
      go ih (inl e) =
          ap (on_line n) (opens k j e)
          ∙ on_miss n (invalidation m k) (invalidations m h (suc k) j) (λ (q : 8 * (7 * k) / 8 ≡ n). f k (omega arith) (omega arith) e (omega arith)) ∙ ih
      go ih (inr e) = ap (on_line n) (passes k j e) ∙ ih

  open_own : (k j c : ℕ) → k ≤ c → c < k + j → is_above m h c ≡ true → on_line (7 * c) (invalidations m h k j) ≡ invalidation m c ∷ []
  unfolding invalidations
  open_own k zero c p q e = absurd (omega arith)
  open_own k (suc j) c p q e = go (open_own (suc k) j c) (split (eqb c k)) (split (is_above m h k))
    where
      go : (suc k ≤ c → c < suc k + j → is_above m h c ≡ true → on_line (7 * c) (invalidations m h (suc k) j) ≡ invalidation m c ∷ [])
          → (eqb c k ≡ true) ⊎ (eqb c k ≡ false) → (is_above m h k ≡ true) ⊎ (is_above m h k ≡ false)
          → on_line (7 * c) (invalidations m h k (suc j)) ≡ invalidation m c ∷ []
      go ih (inl d) (inl a) =
          ap (on_line (7 * c)) (opens k j a)
          ∙ on_hit (7 * c) (invalidation m k) (invalidations m h (suc k) j) (omega (arith, eqb-true c k d))
          ∙ ap₂ (λ (x : ℕ) (t : List Store). invalidation m x ∷ t) (sym (eqb-true c k d))
          (open_none (7 * c) (suc k) j (λ x y z w v. omega (arith, eqb-true c k d)))
      go ih (inl d) (inr a) = absurd (true-false e (ap (is_above m h) (eqb-true c k d) ∙ a))
      go ih (inr d) (inl a) =
          ap (on_line (7 * c)) (opens k j a)
          ∙ on_miss (7 * c) (invalidation m k) (invalidations m h (suc k) j) (λ (v : 8 * (7 * k) / 8 ≡ 7 * c). eqb-false c k d (omega arith))
          ∙ ih (omega (arith, eqb-false c k d)) (omega arith) e
      go ih (inr d) (inr a) = ap (on_line (7 * c)) (passes k j a) ∙ ih (omega (arith, eqb-false c k d)) (omega arith) e

  -- at most one to a cell
  pub open_length : (k j : ℕ) → length (invalidations m h k j) ≤ j
  unfolding invalidations
  open_length k zero = omega arith
  open_length k (suc j) = go (open_length (suc k) j) (split (is_above m h k))
    where
      go : length (invalidations m h (suc k) j) ≤ j → (is_above m h k ≡ true) ⊎ (is_above m h k ≡ false) → length (invalidations m h k (suc j)) ≤ suc j
      go ih (inl e) = omega (arith, ap length (opens k j e))
      go ih (inr e) = omega (arith, ap length (passes k j e))

-- so recovery has at most K stores
pub recovery_few : (cells : ℕ) (m : ℕ → ℕ) → length (recovery_stores cells m) ≤ cells
unfolding recovery_stores
recovery_few cells m = open_length m (highest cells m) 0 cells

-- ---- after a cut

module _ (m : ℕ → ℕ) (h cells : ℕ) (counts : ℕ → ℕ) where
  abbrev now : ℕ → ℕ
  now = after_cut counts (invalidations m h 0 cells) m

  payload_kept : (c i : ℕ) → i < 6 → payload_line now c i ≡ payload_line m c i
  payload_kept c i l =
      line_out counts m (invalidations m h 0 cells) (7 * c + 1 + i) (open_none m h (7 * c + 1 + i) 0 cells (λ d p q e v. omega arith))

  below_kept : (c : ℕ) → is_above m h c ≡ false → marked_line now c ≡ marked_line m c
  below_kept c a =
      line_out counts m (invalidations m h 0 cells) (7 * c)
      (open_none m h (7 * c) 0 cells (λ d p q e (v : 7 * d ≡ 7 * c). true-false e (ap (is_above m h) (same d v) ∙ a)))
    where
      same : (d : ℕ) → 7 * d ≡ 7 * c → d ≡ c
      same d v = omega arith

  -- a word of an opened line
  opened_word : (c i : ℕ) → c < cells → is_above m h c ≡ true → 0 < counts (7 * c) → i < 8
      → now (8 * (7 * c) + i) ≡ stored (invalidation m c) m (8 * (7 * c) + i)
  unfolding played_words
  opened_word c i l a p b =
      cut_at (invalidations m h 0 cells) counts m (7 * c) i b
      ∙ ap (λ (t : List Store). played_words (take (counts (7 * c)) t) m (8 * (7 * c) + i)) (open_own m h 0 cells c (omega arith) (omega arith) a)
      ∙ go (counts (7 * c)) p
    where
      go : (k : ℕ) → 0 < k → played_words (take k (invalidation m c ∷ [])) m (8 * (7 * c) + i) ≡ stored (invalidation m c) m (8 * (7 * c) + i)
      go zero q = absurd (omega arith)
      go (suc k) q = ap (λ (t : List Store). played_words t (stored (invalidation m c) m) (8 * (7 * c) + i)) (take-nil k)

  opened : (c : ℕ) → c < cells → is_above m h c ≡ true → 0 < counts (7 * c) → whole (marked_line now c 0) (marked_line now c 7) ≡ false
  unfolding stored
  opened c l a p =
      ap₂ whole
      (opened_word c 0 l a p (omega arith) ∙ pick_true (eqb (8 * (7 * c) + 0) (8 * (7 * c))) _ _ (eq-eqb (8 * (7 * c) + 0) (8 * (7 * c)) (omega arith)))
      (opened_word c 7 l a p (omega arith) ∙ pick_false (eqb (8 * (7 * c) + 7) (8 * (7 * c))) _ _ (ne_eqb (8 * (7 * c) + 7) (8 * (7 * c)) (λ e. omega arith)))
      ∙ ne_eqb (first_word (marked_line m c 7)) (marked_line m c 7 % 2) (λ e. omega arith)

  -- EACH CELL is as it was, or its marked line was above h and is open now
  pub recovery_cell : (c : ℕ) → c < cells
      → SameCell m (after_cut counts (invalidations m h 0 cells) m) c
      ⊎ ((is_above m h c ≡ true) × (whole (marked_line (after_cut counts (invalidations m h 0 cells) m) c 0)
      (marked_line (after_cut counts (invalidations m h 0 cells) m) c 7) ≡ false))
  recovery_cell c l = go (split (is_above m h c))
    where
      go : (is_above m h c ≡ true) ⊎ (is_above m h c ≡ false)
          → SameCell m now c ⊎ ((is_above m h c ≡ true) × (whole (marked_line now c 0) (marked_line now c 7) ≡ false))
      go (inl a) =
          by_cases (dec_lt 0 (counts (7 * c))) (λ p. inr (a, opened c l a p))
          (λ p. inl (record { marked-line = line_none counts m (invalidations m h 0 cells) (7 * c) (omega arith); payload = payload_kept c }))
      go (inr a) = inl (record { marked-line = below_kept c a; payload = payload_kept c })

  -- WITH ALL OF THEM no whole marked line is above h
  pub recovery_closes : ((n : ℕ) → 0 < counts n) → (c : ℕ) → c < cells
      → whole (marked_line (after_cut counts (invalidations m h 0 cells) m) c 0) (marked_line (after_cut counts (invalidations m h 0 cells) m) c 7) ≡ true
      → version_of (marked_line (after_cut counts (invalidations m h 0 cells) m) c 7) ≤ h
  unfolding is_above
  recovery_closes all c l w = go (split (is_above m h c))
    where
      go : (is_above m h c ≡ true) ⊎ (is_above m h c ≡ false) → version_of (marked_line now c 7) ≤ h
      go (inl a) = absurd (true-false w (opened c l a (all (7 * c))))
      go (inr a) =
          subst (λ (L : ℕ → ℕ). version_of (L 7) ≤ h) (sym (below_kept c a))
          (by_cases (dec_lt h (version_of (marked_line m c 7)))
          (λ v. absurd (true-false (both _ _ (sym (ap (λ (L : ℕ → ℕ). whole (L 0) (L 7)) (below_kept c a)) ∙ w) (lt-ltb h (version_of (marked_line m c 7)) v))
          a))
          (λ v. omega arith))
