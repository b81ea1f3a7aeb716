-- THE LINE LAW: after a cut a line is as it was, open, or all the stored words. Assumes nothing.
use mathlib.Core.Path.{◌≡◌, refl, sym, ap, ap₂, ◌∙◌}
use mathlib.Core.Bool.{true, false, cond}
use mathlib.Core.Logic.{◌⊎◌, inl, inr, by_cases}
use mathlib.Core.List.{List, [], ◌∷◌, ◌++◌}
use Prim.Native.Nat.{ℕ, zero, suc, ◌+◌, ◌*◌, ◌/◌, ◌%◌, ◌≤◌, ◌<◌}
use native.Mathlib.Nat.{mod-lt, zero-lt-suc, mod-eq_of_lt}
use native.Mathlib.Decide.{dec_lt}
use native.Mathlib.Omega.{arith}
use lib.ListN.{length, take}
use lib.Arith.{digits_mod, digits_div}
use lib.Dec.{eqb, ltb}
use borrow.Author.Tests.{eqb-true, eqb-false, eq-eqb, ne_eqb, lt-ltb, le-ltb}
use Rattle.prelude.proofs.Choice.{pick_true, pick_false, split}
use Rattle.layout.specs.Line.{line, whole, version_of, first_word, last_word_of}
use Rattle.stores.specs.Store.{Store, stored, played_words, on_line}
use Rattle.stores.specs.Written.{marked, run, line_stores}
use Rattle.stores.specs.Cut.{after_cut, LineCut, untouched, torn, full}
use Rattle.stores.proofs.StandingStores.{on_hit, on_miss, cut_at, line_none}

-- ---- the stores of a line among others

pub on_append : (n : ℕ) (x y : List Store) → on_line n (x ++ y) ≡ on_line n x ++ on_line n y
unfolding on_line
on_append n [] y = refl
on_append n (s ∷ x) y = go (on_append n x y) (split (eqb (s.word / 8) n))
  where
    go : on_line n (x ++ y) ≡ on_line n x ++ on_line n y → (eqb (s.word / 8) n ≡ true) ⊎ (eqb (s.word / 8) n ≡ false)
        → on_line n ((s ∷ x) ++ y) ≡ on_line n (s ∷ x) ++ on_line n y
    go ih (inl e) = rw e (ap (λ (t : List Store). s ∷ t) ih)
    go ih (inr e) = rw e ih

pub own_run : (n : ℕ) (words : ℕ → ℕ) (k j : ℕ) → k + j ≤ 8 → on_line n (run (8 * n) words k j) ≡ run (8 * n) words k j
unfolding on_line run
own_run n words k zero h = refl
own_run n words k (suc j) h =
    on_hit n (record { word = 8 * n + k; value = words k }) (run (8 * n) words (suc k) j) (omega arith)
    ∙ ap (λ (t : List Store). record { word = 8 * n + k; value = words k } ∷ t) (own_run n words (suc k) j (omega arith))

pub other_run : (n o : ℕ) (words : ℕ → ℕ) (k j : ℕ) → (o ≡ n → ⊥) → k + j ≤ 8 → on_line n (run (8 * o) words k j) ≡ []
unfolding on_line run
other_run n o words k zero ne h = refl
other_run n o words k (suc j) ne h =
    on_miss n (record { word = 8 * o + k; value = words k }) (run (8 * o) words (suc k) j) (λ (e : (8 * o + k) / 8 ≡ n). ne (omega arith))
    ∙ other_run n o words (suc k) j ne (omega arith)

pub own_stores : (n : ℕ) (words : ℕ → ℕ) → on_line n (line_stores n words) ≡ line_stores n words
unfolding line_stores
own_stores n words = own_run n words 0 8 (omega arith)

pub other_stores : (n o : ℕ) (words : ℕ → ℕ) → (o ≡ n → ⊥) → on_line n (line_stores o words) ≡ []
unfolding line_stores
other_stores n o words ne = other_run n o words 0 8 ne (omega arith)

-- ---- the first c of a run, however large c is

pub stored_there : (w v : ℕ) (m : ℕ → ℕ) → stored (record { word = w; value = v }) m w ≡ v
unfolding stored
stored_there w v m = pick_true (eqb w w) v (m w) (eq-eqb w w refl)

pub stored_off : (w v : ℕ) (m : ℕ → ℕ) (i : ℕ) → (i ≡ w → ⊥) → stored (record { word = w; value = v }) m i ≡ m i
unfolding stored
stored_off w v m i h = pick_false (eqb i w) v (m i) (ne_eqb i w h)

module _ (base : ℕ) (words : ℕ → ℕ) where
  outside : (n k c : ℕ) (m : ℕ → ℕ) (i : ℕ) → (k ≤ i → i < k + n → ⊥) → played_words (take c (run base words k n)) m (base + i) ≡ m (base + i)
  unfolding played_words run
  outside n k zero m i h = refl
  outside zero k (suc c) m i h = refl
  outside (suc n) k (suc c) m i h =
      outside n (suc k) c (stored (record { word = base + k; value = words k }) m) i (λ p q. h (omega arith) (omega arith))
      ∙ stored_off (base + k) (words k) m (base + i) (λ e. h (omega arith) (omega arith))

  first_made : (n k c : ℕ) (m : ℕ → ℕ) (i : ℕ) → k ≤ i → i < k + n
      → played_words (take c (run base words k n)) m (base + i) ≡ cond (ltb i (k + c)) (words i) (m (base + i))
  unfolding played_words run
  first_made n k zero m i h l = sym (pick_false (ltb i (k + 0)) (words i) (m (base + i)) (le-ltb i (k + 0) (omega arith)))
  first_made zero k (suc c) m i h l = absurd (omega arith)
  first_made (suc n) k (suc c) m i h l =
      go (first_made n (suc k) c (stored (record { word = base + k; value = words k }) m) i) (split (eqb i k))
    where
      next : ℕ → ℕ
      next = stored (record { word = base + k; value = words k }) m

      go : (suc k ≤ i → i < suc k + n → played_words (take c (run base words (suc k) n)) next (base + i) ≡ cond (ltb i (suc k + c)) (words i) (next (base + i)))
          → (eqb i k ≡ true) ⊎ (eqb i k ≡ false)
          → played_words (take c (run base words (suc k) n)) next (base + i) ≡ cond (ltb i (k + suc c)) (words i) (m (base + i))
      go ih (inl e) =
          outside n (suc k) c next i (λ p q. omega (arith, eqb-true i k e))
          ∙ ap (λ (x : ℕ). next (base + x)) (eqb-true i k e)
          ∙ stored_there (base + k) (words k) m ∙ ap words (sym (eqb-true i k e))
          ∙ sym (pick_true (ltb i (k + suc c)) (words i) (m (base + i)) (lt-ltb i (k + suc c) (omega (arith, eqb-true i k e))))
      go ih (inr e) =
          ih (omega (arith, eqb-false i k e)) (omega arith)
          ∙ ap₂ (λ (x y : ℕ). cond (ltb i x) (words i) y) (omega arith)
          (stored_off (base + k) (words k) m (base + i) (λ q. eqb-false i k e (omega arith)))

pub run_length : (base : ℕ) (words : ℕ → ℕ) (k n : ℕ) → length (run base words k n) ≡ n
unfolding run
run_length base words k zero = refl
run_length base words k (suc n) = ap suc (run_length base words (suc k) n)

-- ---- a line after a cut, where its stores among ss are a run of `new` from word 0 on

module _ (counts m : ℕ → ℕ) (ss : List Store) (n size : ℕ) (new : ℕ → ℕ) (own : on_line n ss ≡ run (8 * n) new 0 size) (i : ℕ) (h : i < 8) where
  own_cut : after_cut counts ss m (8 * n + i) ≡ played_words (take (counts n) (run (8 * n) new 0 size)) m (8 * n + i)
  own_cut = cut_at ss counts m n i h ∙ ap (λ (t : List Store). played_words (take (counts n) t) m (8 * n + i)) own

  -- a word of the run
  pub run_cut : i < size → after_cut counts ss m (8 * n + i) ≡ cond (ltb i (counts n)) (new i) (m (8 * n + i))
  run_cut l =
      own_cut ∙ first_made (8 * n) new size 0 (counts n) m i (omega arith) (omega arith)
      ∙ ap (λ (x : ℕ). cond (ltb i x) (new i) (m (8 * n + i))) (omega arith)

  -- a word past it
  pub run_past : size ≤ i → after_cut counts ss m (8 * n + i) ≡ m (8 * n + i)
  run_past l = own_cut ∙ outside (8 * n) new size 0 (counts n) m i (λ p q. omega arith)

-- ---- and where they are all eight words of `new`

module _ (counts m : ℕ → ℕ) (ss : List Store) (n : ℕ) (new : ℕ → ℕ) (own : on_line n ss ≡ line_stores n new) where
  pub line_cut : (i : ℕ) → line (after_cut counts ss m) n i ≡ cond (ltb (i % 8) (counts n)) (new (i % 8)) (line m n i)
  unfolding line_stores
  line_cut i = run_cut counts m ss n 8 new own (i % 8) (mod-lt i (zero-lt-suc 7)) (mod-lt i (zero-lt-suc 7))

  pub line_full : 8 ≤ counts n → (i : ℕ) → i < 8 → line (after_cut counts ss m) n i ≡ new i
  line_full h i l =
      line_cut i ∙ pick_true (ltb (i % 8) (counts n)) _ _ (lt-ltb (i % 8) (counts n) (omega arith)) ∙ ap new (mod-eq_of_lt l)

-- ---- a line written over one with this stamp

module _ (stamp version : ℕ) (body : ℕ → ℕ) where
  pub marked_first : marked stamp version body 0 ≡ first_word stamp
  unfolding marked
  marked_first = refl

  pub marked-body : (i : ℕ) → 0 < i → i < 7 → marked stamp version body i ≡ body i
  unfolding marked
  marked-body i h l =
      pick_false (eqb i 0) _ _ (ne_eqb i 0 (λ e. omega arith)) ∙ pick_false (eqb i 7) _ _ (ne_eqb i 7 (λ e. omega arith))

  pub marked-whole : whole (marked stamp version body 0) (marked stamp version body 7) ≡ true
  unfolding marked
  marked-whole =
      eq-eqb (first_word stamp) (last_word_of stamp version % 2) (sym (digits_mod version {m = 2} {r = first_word stamp} (omega arith)))

  pub marked-version : version_of (marked stamp version body 7) ≡ version
  unfolding marked
  marked-version = digits_div version {m = 2} {r = first_word stamp} (omega arith)

-- THE LINE LAW
pub line_law : (counts m : ℕ → ℕ) (ss : List Store) (n version : ℕ) (body : ℕ → ℕ)
    → on_line n ss ≡ line_stores n (marked (line m n 7) version body)
    → LineCut (line m n) (marked (line m n 7) version body) (line (after_cut counts ss m) n) (counts n)
line_law counts m ss n version body own =
    by_cases (dec_lt 0 (counts n))
    (λ p. by_cases (dec_lt (counts n) 8) (λ q. torn p q (opened p q)) (λ q. full (omega arith) (line_full counts m ss n new own (omega arith))))
    (λ p. untouched (omega arith) (line_none counts m ss n (omega arith)))
  where
    new : ℕ → ℕ
    new = marked (line m n 7) version body

    opened : 0 < counts n → counts n < 8 → whole (line (after_cut counts ss m) n 0) (line (after_cut counts ss m) n 7) ≡ false
    opened p q =
        ap₂ whole
        (line_cut counts m ss n new own 0 ∙ pick_true (ltb 0 (counts n)) _ _ (lt-ltb 0 (counts n) p) ∙ marked_first (line m n 7) version body)
        (line_cut counts m ss n new own 7 ∙ pick_false (ltb 7 (counts n)) _ _ (le-ltb 7 (counts n) (omega arith)))
        ∙ ne_eqb (first_word (line m n 7)) (line m n 7 % 2) (λ e. omega arith)
