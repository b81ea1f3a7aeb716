-- What the standing stores leave: a word is what the first stores of its own line make of it. Assumes nothing.
use mathlib.Core.Path.{◌≡◌, refl, sym, ap, ◌∙◌, fun_ext}
use mathlib.Core.Bool.{true, false, cond}
use mathlib.Core.Logic.{◌⊎◌, inl, inr, by_cases}
use mathlib.Core.List.{List, [], ◌∷◌}
use Prim.Native.Nat.{ℕ, zero, suc, ◌+◌, ◌-◌, ◌*◌, ◌/◌, ◌%◌, ◌≤◌, ◌<◌}
use native.Mathlib.Nat.{mod-lt, zero-lt-suc}
use native.Mathlib.Omega.{arith}
use native.Mathlib.Numerals.{unary_clauses}
use native.Mathlib.Decide.{ℕ_discrete}
use lib.ListN.{length, take}
use lib.Seq.{take-nil, take_all}
use lib.Dec.{eqb}
use borrow.Author.Tests.{eqb-true, eqb-false, eq-eqb, ne_eqb}
use Rattle.prelude.proofs.Choice.{pick_true, pick_false, split}
use Rattle.layout.specs.Line.{line}
use Rattle.stores.specs.Store.{Store, stored, played_words, less, standing, on_line}
use Rattle.stores.specs.Cut.{after_cut}

-- ---- a word after play depends on the stores of its own line alone

same_at : (ss : List Store) (m m' : ℕ → ℕ) (i : ℕ) → m i ≡ m' i → played_words ss m i ≡ played_words ss m' i
unfolding played_words stored
same_at [] m m' i e = e
same_at (s ∷ ss) m m' i e = same_at ss (stored s m) (stored s m') i (ap (λ (x : ℕ). cond (eqb i s.word) s.value x) e)

elsewhere : (s : Store) (m : ℕ → ℕ) (i : ℕ) → (s.word / 8 ≡ i / 8 → ⊥) → stored s m i ≡ m i
unfolding stored
elsewhere s m i h = pick_false (eqb i s.word) _ _ (ne_eqb i s.word (λ (e : i ≡ s.word). h (ap (λ (x : ℕ). x / 8) (sym e))))

pub on_hit : (n : ℕ) (s : Store) (ss : List Store) → s.word / 8 ≡ n → on_line n (s ∷ ss) ≡ s ∷ on_line n ss
unfolding on_line
on_hit n s ss e = pick_true (eqb (s.word / 8) n) _ _ (eq-eqb (s.word / 8) n e)

pub on_miss : (n : ℕ) (s : Store) (ss : List Store) → (s.word / 8 ≡ n → ⊥) → on_line n (s ∷ ss) ≡ on_line n ss
unfolding on_line
on_miss n s ss h = pick_false (eqb (s.word / 8) n) _ _ (ne_eqb (s.word / 8) n h)

pub own_line : (ss : List Store) (m : ℕ → ℕ) (i : ℕ) → played_words ss m i ≡ played_words (on_line (i / 8) ss) m i
unfolding played_words on_line
own_line [] m i = refl
own_line (s ∷ ss) m i = go (own_line ss (stored s m) i) (split (eqb (s.word / 8) (i / 8)))
  where
    go : played_words ss (stored s m) i ≡ played_words (on_line (i / 8) ss) (stored s m) i
        → (eqb (s.word / 8) (i / 8) ≡ true) ⊎ (eqb (s.word / 8) (i / 8) ≡ false)
        → played_words (s ∷ ss) m i ≡ played_words (on_line (i / 8) (s ∷ ss)) m i
    go ih (inl e) = ih ∙ sym (ap (λ (t : List Store). played_words t m i) (on_hit (i / 8) s ss (eqb-true _ _ e)))
    go ih (inr e) =
        ih ∙ same_at (on_line (i / 8) ss) (stored s m) m i (elsewhere s m i (eqb-false _ _ e))
        ∙ sym (ap (λ (t : List Store). played_words t m i) (on_miss (i / 8) s ss (eqb-false _ _ e)))

-- ---- of each line its first stores stand

pub none_stands : (counts : ℕ → ℕ) (s : Store) (ss : List Store) → counts (s.word / 8) ≡ 0 → standing counts (s ∷ ss) ≡ standing counts ss
unfolding standing
none_stands counts s ss e = pick_true (eqb (counts (s.word / 8)) 0) _ _ (eq-eqb (counts (s.word / 8)) 0 e)

pub one_stands : (counts : ℕ → ℕ) (s : Store) (ss : List Store) → (counts (s.word / 8) ≡ 0 → ⊥)
    → standing counts (s ∷ ss) ≡ s ∷ standing (less (s.word / 8) counts) ss
unfolding standing
one_stands counts s ss h = pick_false (eqb (counts (s.word / 8)) 0) _ _ (ne_eqb (counts (s.word / 8)) 0 h)

pub less_own : (n : ℕ) (counts : ℕ → ℕ) → less n counts n ≡ counts n - 1
unfolding less
less_own n counts = pick_true (eqb n n) _ _ (eq-eqb n n refl)

pub less_other : (n : ℕ) (counts : ℕ → ℕ) (k : ℕ) → (k ≡ n → ⊥) → less n counts k ≡ counts k
unfolding less
less_other n counts k h = pick_false (eqb k n) _ _ (ne_eqb k n h)

pub pred_suc : (k : ℕ) → k ≡ suc k - 1
pred_suc k = simp unary_clauses

pub take_next : (k : ℕ) (s : Store) (ss : List Store) → (k ≡ 0 → ⊥) → take k (s ∷ ss) ≡ s ∷ take (k - 1) ss
take_next zero s ss h = absurd (h refl)
take_next (suc k) s ss h = ap (λ (x : ℕ). s ∷ take x ss) (pred_suc k)

-- one store more, by whether it stands and whether it is of line n
module _ (s : Store) (ss : List Store) (counts : ℕ → ℕ) (n : ℕ)
    (ih : (k : ℕ → ℕ) → on_line n (standing k ss) ≡ take (k n) (on_line n ss)) where
  gone_hit : counts (s.word / 8) ≡ 0 → s.word / 8 ≡ n → on_line n (standing counts (s ∷ ss)) ≡ take (counts n) (on_line n (s ∷ ss))
  gone_hit z e =
      ap (on_line n) (none_stands counts s ss z) ∙ ih counts ∙ ap (λ (k : ℕ). take k (on_line n ss)) zn
      ∙ sym (ap (λ (k : ℕ). take k (on_line n (s ∷ ss))) zn)
    where
      zn : counts n ≡ 0
      zn = ap counts (sym e) ∙ z

  gone_miss : counts (s.word / 8) ≡ 0 → (s.word / 8 ≡ n → ⊥) → on_line n (standing counts (s ∷ ss)) ≡ take (counts n) (on_line n (s ∷ ss))
  gone_miss z h = ap (on_line n) (none_stands counts s ss z) ∙ ih counts ∙ sym (ap (take (counts n)) (on_miss n s ss h))

  kept_hit : (counts (s.word / 8) ≡ 0 → ⊥) → s.word / 8 ≡ n → on_line n (standing counts (s ∷ ss)) ≡ take (counts n) (on_line n (s ∷ ss))
  kept_hit z e =
      ap (on_line n) (one_stands counts s ss z) ∙ on_hit n s (standing (less (s.word / 8) counts) ss) e
      ∙ ap (λ (t : List Store). s ∷ t) (ih (less (s.word / 8) counts) ∙ ap (λ (k : ℕ). take k (on_line n ss)) fewer)
      ∙ sym (take_next (counts n) s (on_line n ss) (λ (q : counts n ≡ 0). z (ap counts e ∙ q)))
      ∙ sym (ap (take (counts n)) (on_hit n s ss e))
    where
      fewer : less (s.word / 8) counts n ≡ counts n - 1
      fewer = ap (λ (x : ℕ). less x counts n) e ∙ less_own n counts

  kept_miss : (counts (s.word / 8) ≡ 0 → ⊥) → (s.word / 8 ≡ n → ⊥) → on_line n (standing counts (s ∷ ss)) ≡ take (counts n) (on_line n (s ∷ ss))
  kept_miss z h =
      ap (on_line n) (one_stands counts s ss z) ∙ on_miss n s (standing (less (s.word / 8) counts) ss) h
      ∙ ih (less (s.word / 8) counts)
      ∙ ap (λ (k : ℕ). take k (on_line n ss)) (less_other (s.word / 8) counts n (λ (q : n ≡ s.word / 8). h (sym q)))
      ∙ sym (ap (take (counts n)) (on_miss n s ss h))

  either_way : (eqb (counts (s.word / 8)) 0 ≡ true) ⊎ (eqb (counts (s.word / 8)) 0 ≡ false) → (eqb (s.word / 8) n ≡ true) ⊎ (eqb (s.word / 8) n ≡ false)
      → on_line n (standing counts (s ∷ ss)) ≡ take (counts n) (on_line n (s ∷ ss))
  either_way (inl z) (inl e) = gone_hit (eqb-true _ _ z) (eqb-true _ _ e)
  either_way (inl z) (inr e) = gone_miss (eqb-true _ _ z) (eqb-false _ _ e)
  either_way (inr z) (inl e) = kept_hit (eqb-false _ _ z) (eqb-true _ _ e)
  either_way (inr z) (inr e) = kept_miss (eqb-false _ _ z) (eqb-false _ _ e)

pub first_stores : (ss : List Store) (counts : ℕ → ℕ) (n : ℕ) → on_line n (standing counts ss) ≡ take (counts n) (on_line n ss)
unfolding on_line standing
first_stores [] counts n = sym (take-nil (counts n))
first_stores (s ∷ ss) counts n =
    either_way s ss counts n (λ k. first_stores ss k n) (split (eqb (counts (s.word / 8)) 0)) (split (eqb (s.word / 8) n))

-- THE CUT LAW: a word after a cut is what the first stores of its line make of it
pub cut_word : (ss : List Store) (counts m : ℕ → ℕ) (i : ℕ)
    → after_cut counts ss m i ≡ played_words (take (counts (i / 8)) (on_line (i / 8) ss)) m i
cut_word ss counts m i =
    own_line (standing counts ss) m i ∙ ap (λ (t : List Store). played_words t m i) (first_stores ss counts (i / 8))

-- the same of word i of line n
pub cut_at : (ss : List Store) (counts m : ℕ → ℕ) (n i : ℕ) → i < 8
    → after_cut counts ss m (8 * n + i) ≡ played_words (take (counts n) (on_line n ss)) m (8 * n + i)
cut_at ss counts m n i h =
    cut_word ss counts m (8 * n + i) ∙ ap (λ (x : ℕ). played_words (take (counts x) (on_line x ss)) m (8 * n + i)) (omega arith)

-- a line of which no store is made stays
untaken : (counts m : ℕ → ℕ) (ss : List Store) (n : ℕ) → take (counts n) (on_line n ss) ≡ [] → line (after_cut counts ss m) n ≡ line m n
unfolding played_words
untaken counts m ss n none = fun_ext (λ i. at (i % 8) (mod-lt i (zero-lt-suc 7)))
  where
    at : (i : ℕ) → i < 8 → after_cut counts ss m (8 * n + i) ≡ m (8 * n + i)
    at i h = cut_at ss counts m n i h ∙ ap (λ (t : List Store). played_words t m (8 * n + i)) none

-- there is none for it
pub line_out : (counts m : ℕ → ℕ) (ss : List Store) (n : ℕ) → on_line n ss ≡ [] → line (after_cut counts ss m) n ≡ line m n
line_out counts m ss n none = untaken counts m ss n (ap (take (counts n)) none ∙ take-nil (counts n))

-- or none stands
pub line_none : (counts m : ℕ → ℕ) (ss : List Store) (n : ℕ) → counts n ≡ 0 → line (after_cut counts ss m) n ≡ line m n
line_none counts m ss n e = untaken counts m ss n (ap (λ (k : ℕ). take k (on_line n ss)) e)

-- a line with one store, which stands
pub line_one : (counts m : ℕ → ℕ) (ss : List Store) (n : ℕ) (s : Store) → on_line n ss ≡ s ∷ [] → 0 < counts n → (i : ℕ)
    → line (after_cut counts ss m) n i ≡ stored s m (8 * n + i % 8)
unfolding played_words
line_one counts m ss n s own h i =
    cut_at ss counts m n (i % 8) (mod-lt i (zero-lt-suc 7))
    ∙ ap (λ (t : List Store). played_words t m (8 * n + i % 8)) (ap (take (counts n)) own ∙ take_all (counts n) (s ∷ []) (omega arith))

-- ---- all of them stand

-- where each line's count reaches its stores: its line has a count for the first, and so it is without the first
pub first_counted : (s : Store) (ss : List Store) (counts : ℕ → ℕ) → ((n : ℕ) → length (on_line n (s ∷ ss)) ≤ counts n)
    → (counts (s.word / 8) ≡ 0 → ⊥) × ((n : ℕ) → length (on_line n ss) ≤ less (s.word / 8) counts n)
first_counted s ss counts h = ((λ z. omega (arith, own)), fewer)
  where
    own : suc (length (on_line (s.word / 8) ss)) ≤ counts (s.word / 8)
    own = omega (arith, ap (λ (t : List Store). length t) (on_hit (s.word / 8) s ss refl), h (s.word / 8))

    fewer : (n : ℕ) → length (on_line n ss) ≤ less (s.word / 8) counts n
    fewer n =
        by_cases (ℕ_discrete n (s.word / 8))
        (λ e. rw e (omega (arith, own, less_own (s.word / 8) counts)))
        (λ ne.
        omega
        (arith, less_other (s.word / 8) counts n ne, ap (λ (t : List Store). length t) (on_miss n s ss (λ (q : s.word / 8 ≡ n). ne (sym q))), h n))

pub all-stand : (ss : List Store) (counts : ℕ → ℕ) → ((n : ℕ) → length (on_line n ss) ≤ counts n) → standing counts ss ≡ ss
unfolding standing
all-stand [] counts h = refl
all-stand (s ∷ ss) counts h =
    let f = first_counted s ss counts h in
    one_stands counts s ss f.0 ∙ ap (λ (t : List Store). s ∷ t) (all-stand ss (less (s.word / 8) counts) f.1)

pub on_few : (n : ℕ) (ss : List Store) → length (on_line n ss) ≤ length ss
unfolding on_line
on_few n [] = omega arith
on_few n (s ∷ ss) = go (on_few n ss) (split (eqb (s.word / 8) n))
  where
    go : length (on_line n ss) ≤ length ss → (eqb (s.word / 8) n ≡ true) ⊎ (eqb (s.word / 8) n ≡ false) → length (on_line n (s ∷ ss)) ≤ suc (length ss)
    go ih (inl e) = omega (arith, ap length (on_hit n s ss (eqb-true (s.word / 8) n e)))
    go ih (inr e) = omega (arith, ap length (on_miss n s ss (eqb-false (s.word / 8) n e)))

pub all-made : (ss : List Store) (counts : ℕ → ℕ) → ((n : ℕ) → length ss ≤ counts n) → standing counts ss ≡ ss
all-made ss counts h = all-stand ss counts (λ n. omega (arith, h n, on_few n ss))
