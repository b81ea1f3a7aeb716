-- The words of a value at their places in a record, and the stores with the value moved in. Assumes nothing.
use mathlib.Core.Path.{◌≡◌, refl, sym, ap, ap₂, ◌∙◌, fun_ext}
use mathlib.Core.Bool.{cond}
use mathlib.Core.Logic.{by_cases}
use mathlib.Core.List.{List, [], ◌∷◌}
use Prim.Native.Nat.{ℕ, zero, suc, ◌+◌, ◌-◌, ◌*◌, ◌/◌, ◌^◌, ◌≤◌, ◌<◌}
use native.Mathlib.Decide.{dec_lt, ℕ_discrete}
use native.Mathlib.Omega.{arith}
use lib.Dec.{eqb, ltb}
use lib.ListN.{length, set, length-set}
use borrow.Author.Tests.{eq-eqb, ne_eqb, lt-ltb, le-ltb}
use Rattle.words.specs.Word.{AreBytes, word}
use Rattle.words.proofs.Laws.{word_past, word_range}
use Rattle.prelude.proofs.Choice.{pick_true, pick_false}
use Rattle.prelude.specs.Range.{tabulate}
use Rattle.prelude.proofs.Tabulate.{set-tabulate}
use Rattle.layout.specs.Line.{first_word, last_word_of}
use Rattle.layout.specs.Record.{Layout, key_word, kind_word, limit, value_place}
use Rattle.layout.specs.Moved.{words_moved}
use Rattle.layout.proofs.Places.{InBody, place_rises, place_in_body}
use Rattle.stores.specs.Written.{marked, placed_word, body_a, body_b}
use Rattle.stores.specs.inner.Written.{record_words, with_value}

-- at its place stands the word
pub placed_at : (l : ℕ) (value : List ℕ) (n i : ℕ) → i < n → placed_word l value n (value_place l i) ≡ word value i
unfolding placed_word
placed_at l value zero i h = absurd (omega arith)
placed_at l value (suc n) i h =
    by_cases (dec_lt i n)
    (λ p.
    pick_false (eqb (value_place l i) (value_place l n)) _ _ (ne_eqb (value_place l i) (value_place l n) (λ e. omega (arith, place_rises l i n p)))
    ∙ placed_at l value n i p)
    (λ p.
    let e : i ≡ n = omega arith in
    pick_true (eqb (value_place l i) (value_place l n)) _ _ (eq-eqb (value_place l i) (value_place l n) (ap (value_place l) e)) ∙ ap (word value) (sym e))

-- and 0 where no word stands
placed_none : (l : ℕ) (value : List ℕ) (n p : ℕ) → ((i : ℕ) → i < n → p ≡ value_place l i → ⊥) → placed_word l value n p ≡ 0
unfolding placed_word
placed_none l value zero p h = refl
placed_none l value (suc n) p h =
    pick_false (eqb p (value_place l n)) _ _ (ne_eqb p (value_place l n) (h n (omega arith)))
    ∙ placed_none l value n p (λ i q. h i (omega arith))

-- words past the end of the value add nothing
placed_past : (l : ℕ) (value : List ℕ) (n k p : ℕ) → length value ≤ 8 * n → placed_word l value (k + n) p ≡ placed_word l value n p
unfolding placed_word
placed_past l value n zero p h = ap (λ (x : ℕ). placed_word l value x p) same
  where
    same : 0 + n ≡ n
    same = omega arith
placed_past l value n (suc k) p h =
    ap (λ (x : ℕ). placed_word l value x p) more
    ∙ by_cases (ℕ_discrete p (value_place l (k + n)))
    (λ e.
    pick_true (eqb p (value_place l (k + n))) _ _ (eq-eqb p (value_place l (k + n)) e) ∙ word_past value (k + n) (omega arith)
    ∙ sym (placed_none l value n p (λ i q f. omega (arith, place_rises l i (k + n) (omega arith)))))
    (λ ne. pick_false (eqb p (value_place l (k + n))) _ _ (ne_eqb p (value_place l (k + n)) ne) ∙ placed_past l value n k p h)
  where
    more : suc k + n ≡ suc (k + n)
    more = omega arith

pub placed_empty : (l n p : ℕ) → placed_word l [] n p ≡ 0
unfolding placed_word
placed_empty l n p = ap (λ (x : ℕ). placed_word l [] x p) same ∙ placed_past l [] 0 n p (omega arith)
  where
    same : n ≡ n + 0
    same = omega arith

-- a place holds a word
pub placed_below : (l : ℕ) (value : List ℕ) (n p : ℕ) → AreBytes value → placed_word l value n p < 2 ^ 64
unfolding placed_word
placed_below l value zero p b = omega arith
placed_below l value (suc n) p b =
    by_cases (ℕ_discrete p (value_place l n))
    (λ e. rw (pick_true (eqb p (value_place l n)) (word value n) (placed_word l value n p) (eq-eqb p (value_place l n) e)) (word_range value n b))
    (λ ne. rw (pick_false (eqb p (value_place l n)) (word value n) (placed_word l value n p) (ne_eqb p (value_place l n) ne)) (placed_below l value n p b))

-- ---- fill_value: the words before step i are at their places

pub value-length : (l : ℕ) (value : List ℕ) (from n : ℕ) (words : List ℕ) → length (with_value l value from n words) ≡ length words
unfolding with_value
value-length l value from zero words = refl
value-length l value from (suc n) words = length-set (with_value l value from n words) _ _ ∙ value-length l value from n words

pub record Filling (l : ℕ) (value start words : List ℕ) (from i : ℕ) : Type 0 where
  pub low : 8 * i < length value + 8
  pub size : length words ≡ length start
  pub so_far : words ≡ with_value l value from i start

pub filling_start : (l : ℕ) (value start : List ℕ) (from : ℕ) → Filling l value start start from 0
unfolding with_value
filling_start l value start from = record { low = omega arith; size = refl; so_far = refl }

pub filling_next : (l : ℕ) (value start words after : List ℕ) (from i next : ℕ) → Filling l value start words from i → 8 * i < length value → next ≡ i + 1
    → after ≡ set words (from + value_place l i) (word value i) → Filling l value start after from next
unfolding with_value
filling_next l value start words after from i next g h q p =
    record { low = omega arith; size = ap (λ (t : List ℕ). length t) so_far ∙ value-length l value from next start; so_far = so_far }
  where
    step : suc i ≡ next
    step = omega arith

    so_far : after ≡ with_value l value from next start
    so_far =
        p ∙ ap (λ (ws : List ℕ). set ws (from + value_place l i) (word value i)) g.so_far
        ∙ ap (λ (n : ℕ). with_value l value from n start) step

pub filling_end : (l : ℕ) (value start words : List ℕ) (from i : ℕ) → Filling l value start words from i → length value ≤ 8 * i
    → (i ≡ words_moved (length value)) × (words ≡ with_value l value from (words_moved (length value)) start)
filling_end l value start words from i g high = (count, g.so_far ∙ ap (λ (n : ℕ). with_value l value from n start) count)
  where
    count : i ≡ words_moved (length value)
    count = omega (arith, g.low)

-- ---- the stores of a record: word p by its kind word w and by what stands at a value's place

module _ (l a b key version : ℕ) where
  abbrev word_at : (w v p : ℕ) → ℕ
  word_at w v p =
      cond (ltb p 8)
      (cond (eqb p 0) (first_word a) (cond (eqb p 7) (last_word_of a version) (cond (ltb p (l + 1)) (key_word key (p - 1)) (cond (eqb p (l + 1)) w v))))
      (cond (eqb (p - 8) 0) (first_word b) (cond (eqb (p - 8) 7) (last_word_of b version) v))

  in_body : (w v p : ℕ) → InBody l p → word_at w v p ≡ v
  in_body w v p body =
      by_cases (dec_lt p 8)
      (λ h.
      pick_true (ltb p 8) _ _ (lt-ltb p 8 h) ∙ pick_false (eqb p 0) _ _ (ne_eqb p 0 (λ e. omega (arith, body.after_kind)))
      ∙ pick_false (eqb p 7) _ _ (ne_eqb p 7 body.no_stamp_A) ∙ pick_false (ltb p (l + 1)) _ _ (le-ltb p (l + 1) (omega (arith, body.after_kind)))
      ∙ pick_false (eqb p (l + 1)) _ _ (ne_eqb p (l + 1) (λ e. omega (arith, body.after_kind))))
      (λ h.
      pick_false (ltb p 8) _ _ (le-ltb p 8 (omega arith))
      ∙ pick_false (eqb (p - 8) 0) _ _ (ne_eqb (p - 8) 0 (λ e. body.no_mark_B (omega arith)))
      ∙ pick_false (eqb (p - 8) 7) _ _ (ne_eqb (p - 8) 7 (λ e. omega (arith, body.before_stamp_B))))

  words_by_place : (kind number : ℕ) (value : List ℕ)
      → record_words l a b key kind number value version ≡ tabulate
      (λ p. word_at (kind_word kind (length value) number) (placed_word l value (limit l / 8) p) p) 0
      16
  unfolding record_words tabulate marked body_a body_b
  words_by_place kind number value = refl

  without_value : (w : ℕ) → record_words l a b key w 0 [] version ≡ tabulate (word_at w 0) 0 16
  without_value w =
      words_by_place w 0 []
      ∙ ap (λ (f : ℕ → ℕ). tabulate f 0 16) (fun_ext (λ p. ap₂ (λ (x y : ℕ). word_at x y p) kind_alone (placed_empty l (limit l / 8) p)))
    where
      kind_alone : kind_word w 0 0 ≡ w
      kind_alone = omega arith

  -- a record without a value, by its kind word
  pub no_value : (kind number w : ℕ) (words : List ℕ) → w ≡ kind_word kind 0 number → words ≡ record_words l a b key w 0 [] version
      → words ≡ record_words l a b key kind number [] version
  no_value kind number w words e f =
      f ∙ words_by_place w 0 [] ∙ ap (λ (x : ℕ). tabulate (λ p. word_at x (placed_word l [] (limit l / 8) p) p) 0 16) word_same
      ∙ sym (words_by_place kind number [])
    where
      word_same : kind_word w 0 0 ≡ kind_word kind 0 number
      word_same = omega arith

  some_words : Layout l → (w : ℕ) (value : List ℕ) (n : ℕ) → l + n ≤ 11
      → with_value l value 0 n (tabulate (word_at w 0) 0 16) ≡ tabulate (λ p. word_at w (placed_word l value n p) p) 0 16
  unfolding with_value placed_word
  some_words lay w value zero h = refl
  some_words lay w value (suc n) h =
      ap₂ (λ (ws : List ℕ) (p : ℕ). set ws p (word value n)) (some_words lay w value n (omega arith)) place
      ∙ set-tabulate _ _ 16 (value_place l n) (word value n) (omega (arith, body.before_stamp_B))
      (in_body w _ (value_place l n) body ∙ placed_at l value (suc n) n (omega arith))
      (λ p ne. ap (λ (v : ℕ). word_at w v p) (pick_false (eqb p (value_place l n)) _ _ (ne_eqb p (value_place l n) ne)))
    where
      body : InBody l (value_place l n)
      body = place_in_body l n lay (omega arith)

      place : 0 + value_place l n ≡ value_place l n
      place = omega arith

  -- the steps of moving the value into a record without one, whose kind word is the record's, make the record
  pub value_moved : Layout l → (kind number w : ℕ) (value frame words : List ℕ) → length value ≤ limit l → w ≡ kind_word kind (length value) number
      → frame ≡ record_words l a b key w 0 [] version → words ≡ with_value l value 0 (words_moved (length value)) frame
      → words ≡ record_words l a b key kind number value version
  value_moved lay kind number w value frame words fits e f moved =
      moved ∙ ap (with_value l value 0 (words_moved (length value))) (f ∙ without_value w)
      ∙ some_words lay w value (words_moved (length value)) (omega (arith, lay.high))
      ∙ ap (λ (g : ℕ → ℕ). tabulate g 0 16) (fun_ext (λ p. ap₂ (λ (x v : ℕ). word_at x v p) e (all_placed p)))
      ∙ sym (words_by_place kind number value)
    where
      all : limit l / 8 ≡ limit l / 8 - words_moved (length value) + words_moved (length value)
      all = omega (arith, lay.high)

      all_placed : (p : ℕ) → placed_word l value (words_moved (length value)) p ≡ placed_word l value (limit l / 8) p
      all_placed p =
          sym
          (ap (λ (n : ℕ). placed_word l value n p) all
          ∙ placed_past l value (words_moved (length value)) (limit l / 8 - words_moved (length value)) p (omega arith))
