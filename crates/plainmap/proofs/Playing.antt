-- Play of a record's stores: what a cut leaves of them. Assumes nothing.
use mathlib.Core.Path.{◌≡◌, refl, sym, ap, ap₂, ◌∙◌, subst}
use mathlib.Core.Bool.{false, not}
use mathlib.Core.List.{List, [], ◌∷◌, ◌++◌}
use mathlib.Core.Logic.{by_cases}
use Prim.Native.Nat.{ℕ, zero, suc, ◌+◌, ◌*◌, ◌≤◌, ◌<◌, ◌/◌, min}
use native.Mathlib.Omega.{arith}
use native.Mathlib.Decide.{dec_lt}
use lib.Dec.{eqb}
use lib.ListN.{length, get_or, take, get_or-append}
use lib.Seq.{get_or-append-add, take_all}
use borrow.Author.Tests.{eq-eqb, ne_eqb, le-ltb}
use Rattle.prelude.proofs.Choice.{pick_true, pick_false}
use Rattle.prelude.specs.Range.{tabulate}
use Rattle.layout.specs.Size.{slots_of, slots_in}
use Rattle.prelude.proofs.Any.{any_clear}
use Rattle.prelude.proofs.Refusals.{refuse_if-false, taken_leaves, alike, refused_keeps}
use Rattle.prelude.proofs.Tabulate.{tabulate-length, tabulate_get}
use Rattle.stores.specs.Store.{Store, zipped, played, standing}
use Rattle.layout.specs.Line.{line}
use Rattle.stores.specs.Written.{new_a, new_b, run, line_stores, record_stores}
use Rattle.stores.specs.inner.Written.{record_numbers}
use Rattle.stores.specs.Play.{half_fault, play_fault, counted, play_result, word_numbers, values, play_end, list_fault, play_list_result, playing, half_counts}
use Rattle.stores.proofs.Plays.{half_order, halves_fine, play_halves}
use Rattle.stores.proofs.Halves.{AllOn, none_on, one_on, two_halves, play_stands, playable, list_plays}
use Rattle.stores.proofs.defs.Cut.{StoresInside, nil_in, cons_in}

-- the stores are their word numbers and values
pub zipped_stores : (ss : List Store) → zipped (word_numbers ss) (values ss) ≡ ss
unfolding zipped word_numbers values
zipped_stores [] = refl
zipped_stores (s ∷ ss) = ap (λ (t : List Store). s ∷ t) (zipped_stores ss)

list_lengths : (ss : List Store) → length (word_numbers ss) ≡ length (values ss)
unfolding word_numbers values
list_lengths [] = refl
list_lengths (s ∷ ss) = omega (arith, list_lengths ss)

-- ---- a record's stores pass play's tests

record-numbers : (l : ℕ) (m : ℕ → ℕ) (s key kind number : ℕ) (value : List ℕ) (version : ℕ)
    → word_numbers (record_stores l m s key kind number value version) ≡ record_numbers s
unfolding word_numbers record_stores line_stores run record_numbers tabulate
record-numbers l m s key kind number value version = refl

first_line : (s i : ℕ) → i < 8 → get_or (record_numbers s) i 0 ≡ 8 * (2 * s) + i
unfolding record_numbers
first_line s i h =
    get_or-append (tabulate (λ j. 8 * (2 * s) + j) 0 8) _ 0 i (omega (arith, tabulate-length (λ j. 8 * (2 * s) + j) 0 8))
    ∙ tabulate_get (λ j. 8 * (2 * s) + j) 0 8 i h ∙ omega arith

second_line : (s i : ℕ) → i < 8 → get_or (record_numbers s) (8 + i) 0 ≡ 8 * (2 * s + 1) + i
unfolding record_numbers
second_line s i h =
    ap (λ (x : ℕ). get_or (record_numbers s) (x + i) 0) (sym (tabulate-length (λ j. 8 * (2 * s) + j) 0 8))
    ∙ get_or-append-add (tabulate (λ j. 8 * (2 * s) + j) 0 8) _ i 0
    ∙ tabulate_get (λ j. 8 * (2 * s + 1) + j) 0 8 i h ∙ omega arith

places_length : (s : ℕ) → length (record_numbers s) ≡ 16
unfolding record_numbers tabulate
places_length s = refl

-- words 0 to 7 of line n inside the image, in order
half_passes : (len : ℕ) (at : List ℕ) (k n : ℕ) → 64 * (n + 1) ≤ len → ((i : ℕ) → i < 8 → get_or at (k + i) 0 ≡ 8 * n + i)
    → half_fault len at k ≡ false
half_passes len at k n h order =
    sym
    (half_order len at k (8 * n) start (omega arith) (omega arith) false
    (sym (any_clear _ 0 8 (λ i p. alike _ _ (get_or at (k + (0 + i)) 0) (8 * n + (0 + i)) refl refl (order (0 + i) (omega arith))))))
  where
    start : 8 * n ≡ get_or at k 0
    start = let e : k + 0 ≡ k = omega arith in omega (arith, order 0 (omega arith), ap (λ (x : ℕ). get_or at x 0) e)

pub record_passes : (l len : ℕ) (m : ℕ → ℕ) (s key kind number : ℕ) (value : List ℕ) (version a b : ℕ)
    → (slots_of len ≡ 0 → ⊥) → 128 * (s + 1) ≤ len → a ≤ 8 → b ≤ 8
    → play_fault len (word_numbers (record_stores l m s key kind number value version)) a b ≡ 0
record_passes l len m s key kind number value version a b ne h p q =
    ap (λ (at : List ℕ). play_fault len at a b) (record-numbers l m s key kind number value version)
    ∙ sym
    (play_halves len (record_numbers s) a b (slots_of len) refl ne p q 0
    (halves_fine len (record_numbers s) false
    (sym (half_passes len (record_numbers s) 0 (2 * s) (omega arith) (λ i k. first_line s (0 + i) (omega arith) ∙ omega arith))) refl false
    (sym (half_passes len (record_numbers s) 8 (2 * s + 1) (omega arith) (second_line s))) refl
    (λ (e : get_or (record_numbers s) 0 0 ≡ get_or (record_numbers s) 8 0).
    omega (arith, first_line s 0 (omega arith), second_line s 0 (omega arith)))))

-- ---- play is what a cut leaves

-- the counted stores, where play does not refuse them
playing-counted : (image : List ℕ) (ss : List Store) (a b : ℕ) → play_fault (length image) (word_numbers ss) a b ≡ 0
    → playing image ss a b ≡ played (counted a b ss) image
unfolding playing play_result
playing-counted image ss a b e =
    taken_leaves _ image (play_fault (length image) (word_numbers ss) a b) e ∙ ap (λ (t : List Store). played (counted a b t) image) (zipped_stores ss)

-- play's answer and the bytes that it leaves
both_parts : (image : List ℕ) (ss : List Store) (a b : ℕ) → play_fault (length image) (word_numbers ss) a b ≡ 0 → {after : List ℕ}
    → playing image ss a b ≡ after → play_result image (word_numbers ss) (values ss) a b ≡ play_end 0 after
unfolding playing play_result
both_parts image ss a b z e = ap₂ play_end z e

-- no stores: play refuses them, since they are not two lines
pub playing_none : (image : List ℕ) (a b : ℕ) → playing image [] a b ≡ image
unfolding playing play_result word_numbers
playing_none image a b =
    refused_keeps _ image (play_fault (length image) [] a b)
    (λ z. let h = (playable (length image) [] a b z).first.order 1 (omega arith) in omega (arith, h))

-- PLAY OF A RECORD'S STORES with two counts is what a cut with these counts leaves
pub playing_record : (l : ℕ) (image : List ℕ) (m : ℕ → ℕ) (s key kind number : ℕ) (value : List ℕ) (version a b : ℕ) (counts : ℕ → ℕ)
    → (slots_in image ≡ 0 → ⊥) → 128 * (s + 1) ≤ length image → a ≤ 8 → b ≤ 8 → counts (2 * s) ≡ a → counts (2 * s + 1) ≡ b
    → playing image (record_stores l m s key kind number value version) a b ≡
    played (standing counts (record_stores l m s key kind number value version)) image
playing_record l image m s key kind number value version a b counts ne h p q e f =
    playing-counted image ss a b passes
    ∙ ap (λ (t : List Store). played t image)
    (ap (counted a b) (sym (zipped_stores ss))
    ∙ play_stands (length image) (word_numbers ss) (values ss) a b counts (ap length (record-numbers l m s key kind number value version) ∙ places_length s)
    passes
    (ap counts (line_of 0 (2 * s) (first_line s 0 (omega arith))) ∙ e) (ap counts (line_of 8 (2 * s + 1) (second_line s 0 (omega arith))) ∙ f)
    ∙ ap (standing counts) (zipped_stores ss))
  where
    ss : List Store
    ss = record_stores l m s key kind number value version

    passes : play_fault (length image) (word_numbers ss) a b ≡ 0
    passes = record_passes l (length image) m s key kind number value version a b ne h p q

    line_of : (k n : ℕ) → get_or (record_numbers s) k 0 ≡ 8 * n + 0 → get_or (word_numbers ss) k 0 / 8 ≡ n
    line_of k n d = omega (arith, ap (λ (at : List ℕ). get_or at k 0) (record-numbers l m s key kind number value version), d)

-- PLAY OF A RECORD'S STORES with two counts is what a cut with these counts leaves, a on its first line and b on the other
pub record_cut : (l : ℕ) (image : List ℕ) (m : ℕ → ℕ) (s key kind number : ℕ) (value : List ℕ) (version a b : ℕ)
    → (slots_in image ≡ 0 → ⊥) → 128 * (s + 1) ≤ length image → a ≤ 8 → b ≤ 8 → (ss : List Store) → ss ≡ record_stores l m s key kind number value version
    → playing image ss a b ≡ played (standing (half_counts ss a b) ss) image
unfolding half_counts record_stores line_stores run
record_cut l image m s key kind number value version a b ne h p q ss e =
    subst (λ (t : List Store). playing image t a b ≡ played (standing (half_counts t a b) t) image) (sym e)
    (playing_record l image m s key kind number value version a b _ ne h p q
    (pick_true (eqb (2 * s) ((8 * (2 * s) + 0) / 8)) a b (eq-eqb (2 * s) ((8 * (2 * s) + 0) / 8) (omega arith)))
    (pick_false (eqb (2 * s + 1) ((8 * (2 * s) + 0) / 8)) a b
    (ne_eqb (2 * s + 1) ((8 * (2 * s) + 0) / 8) (λ (z : 2 * s + 1 ≡ (8 * (2 * s) + 0) / 8). omega arith))))

-- ---- counts above 8

-- a list of at most eight has no more to take
take_limited : (k : ℕ) (ss : List Store) → length ss ≤ 8 → take (min k 8) ss ≡ take k ss
take_limited k ss h =
    by_cases (dec_lt 8 k) (λ p. take_all (min k 8) ss (omega arith) ∙ sym (take_all k ss (omega arith)))
    (λ q. let e : min k 8 ≡ k = omega (arith, q) in ap (λ (x : ℕ). take x ss) e)

-- the stores of a line are on it
run_on : (n : ℕ) (words : ℕ → ℕ) (k j : ℕ) → k + j ≤ 8 → AllOn n (run (8 * n) words k j)
unfolding run
run_on n words k zero h = none_on
run_on n words k (suc j) h =
    one_on {s = record { word = 8 * n + k; value = words k }} (omega arith) (run_on n words (suc k) j (omega arith))

line_on : (n : ℕ) (words : ℕ → ℕ) → AllOn n (line_stores n words)
unfolding line_stores
line_on n words = run_on n words 0 8 (omega arith)

line_limited : (n : ℕ) (words : ℕ → ℕ) (k : ℕ) → take (min k 8) (line_stores n words) ≡ take k (line_stores n words)
unfolding line_stores run
line_limited n words k = take_limited k (line_stores n words) (omega arith)

-- a record's stores fill each line with eight, so that a count above 8 leaves no other ones than 8 does
record_limited : (l : ℕ) (m : ℕ → ℕ) (s key kind number : ℕ) (value : List ℕ) (version : ℕ) (counts : ℕ → ℕ)
    → standing (λ n. min (counts n) 8) (record_stores l m s key kind number value version) ≡
    standing counts (record_stores l m s key kind number value version)
unfolding record_stores
record_limited l m s key kind number value version counts =
    halves (λ n. min (counts n) 8)
    ∙ ap₂ (λ (x y : List Store). x ++ y) (line_limited (2 * s) _ (counts (2 * s))) (line_limited (2 * s + 1) _ (counts (2 * s + 1)))
    ∙ sym (halves counts)
  where
    line_a : List Store
    line_a = line_stores (2 * s) (new_a l (line m (2 * s) 7) key kind number value version)

    line_b : List Store
    line_b = line_stores (2 * s + 1) (new_b l (line m (2 * s + 1) 7) value version)

    halves : (c : ℕ → ℕ) → standing c (line_a ++ line_b) ≡ take (c (2 * s)) line_a ++ take (c (2 * s + 1)) line_b
    halves c =
        two_halves (2 * s) (2 * s + 1) c (λ (e : 2 * s + 1 ≡ 2 * s). omega arith) (line_on (2 * s) _) (line_on (2 * s + 1) _)

-- PLAY OF A RECORD'S STORES with what a cut counts on their two lines, 8 at most, answers 0 and leaves what the cut leaves
pub record_counted : (l : ℕ) (image : List ℕ) (m : ℕ → ℕ) (s key kind number : ℕ) (value : List ℕ) (version : ℕ) (counts : ℕ → ℕ)
    → (slots_in image ≡ 0 → ⊥) → 128 * (s + 1) ≤ length image → (ss : List Store) → ss ≡ record_stores l m s key kind number value version
    → play_result image (word_numbers ss) (values ss) (min (counts (get_or (word_numbers ss) 0 0 / 8)) 8) (min (counts (get_or (word_numbers ss) 8 0 / 8)) 8) ≡
    play_end 0 (played (standing counts ss) image)
record_counted l image m s key kind number value version counts ne h ss e =
    subst
    (λ (t : List Store).
    play_result image (word_numbers t) (values t) (min (counts (get_or (word_numbers t) 0 0 / 8)) 8) (min (counts (get_or (word_numbers t) 8 0 / 8)) 8) ≡
    play_end 0 (played (standing counts t) image)) (sym e)
    (ap₂ (λ (n o : ℕ). play_result image (word_numbers rs) (values rs) (min (counts n) 8) (min (counts o) 8)) (line_is 0 (2 * s) (first_line s 0 (omega arith)))
    (line_is 8 (2 * s + 1) (second_line s 0 (omega arith)))
    ∙ by_parts (min (counts (2 * s)) 8) (min (counts (2 * s + 1)) 8) (omega arith) (omega arith) refl refl
    ∙ ap (λ (t : List Store). play_end 0 (played t image)) (record_limited l m s key kind number value version counts))
  where
    rs : List Store
    rs = record_stores l m s key kind number value version

    line_is : (k n : ℕ) → get_or (record_numbers s) k 0 ≡ 8 * n + 0 → get_or (word_numbers rs) k 0 / 8 ≡ n
    line_is k n d = omega (arith, ap (λ (at : List ℕ). get_or at k 0) (record-numbers l m s key kind number value version), d)

    by_parts : (a b : ℕ) → a ≤ 8 → b ≤ 8 → min (counts (2 * s)) 8 ≡ a → min (counts (2 * s + 1)) 8 ≡ b
        → play_result image (word_numbers rs) (values rs) a b ≡ play_end 0 (played (standing (λ n. min (counts n) 8) rs) image)
    by_parts a b p q x y =
        both_parts image rs a b (record_passes l (length image) m s key kind number value version a b ne h p q)
        (playing_record l image m s key kind number value version a b (λ n. min (counts n) 8) ne h p q x y)

-- PLAY WITH 8 AND 8 leaves what the play of the list leaves
pub record_whole : (l : ℕ) (image : List ℕ) (m : ℕ → ℕ) (s key kind number : ℕ) (value : List ℕ) (version : ℕ)
    → (slots_in image ≡ 0 → ⊥) → 128 * (s + 1) ≤ length image → (ss : List Store) → ss ≡ record_stores l m s key kind number value version
    → play_result image (word_numbers ss) (values ss) 8 8 ≡ play_list_result image (word_numbers ss) (values ss)
record_whole l image m s key kind number value version ne h ss e =
    sym
    (list_plays image (word_numbers ss) (values ss) sixteen (sym (list_lengths ss) ∙ sixteen)
    (ap (λ (t : List Store). play_fault (length image) (word_numbers t) 8 8) e
    ∙ record_passes l (length image) m s key kind number value version 8 8 ne h (omega arith) (omega arith)))
  where
    sixteen : length (word_numbers ss) ≡ 16
    sixteen =
        ap (λ (t : List Store). length (word_numbers t)) e ∙ ap length (record-numbers l m s key kind number value version) ∙ places_length s

-- ---- the play of a list

word_inside : {n : ℕ} {ss : List Store} → StoresInside n ss → (i : ℕ) → i < length (word_numbers ss) → 8 * get_or (word_numbers ss) i 0 + 8 ≤ n
unfolding word_numbers
word_inside nil_in i h = absurd (omega arith)
word_inside (cons_in a b more) zero h = a
word_inside (cons_in a b more) (suc i) h = word_inside more i (omega arith)

list_fine : (image : List ℕ) (ss : List Store) → StoresInside (length image) ss → list_fault (length image) (word_numbers ss) (length (values ss)) ≡ 0
unfolding list_fault
list_fine image ss inside =
    refuse_if-false _ 15 _ (ap not (eq-eqb _ _ (list_lengths ss)))
    ∙ refuse_if-false _ 15 0 (any_clear _ 0 (length (word_numbers ss)) (λ i h. le-ltb _ _ (word_inside inside (0 + i) (omega arith))))

-- THE PLAY OF A LIST makes all the stores
pub list_played : (image : List ℕ) (ss : List Store) → StoresInside (length image) ss
    → play_list_result image (word_numbers ss) (values ss) ≡ play_end 0 (played ss image)
unfolding play_list_result
list_played image ss inside =
    ap₂ play_end (list_fine image ss inside)
    (taken_leaves _ image _ (list_fine image ss inside) ∙ ap (λ (t : List Store). played t image) (zipped_stores ss))
