-- Stores of one line, stores of two lines, and play with two counts: they are the standing stores. Assumes nothing.
use mathlib.Core.Path.{◌≡◌, refl, sym, ap, ap₂, ◌∙◌, subst}
use mathlib.Core.Bool.{Bool, true, false, not}
use mathlib.Core.Logic.{◌⊎◌, inl, inr, by_cases}
use mathlib.Core.List.{List, [], ◌∷◌, ◌++◌, append-nil}
use Prim.Native.Nat.{ℕ, zero, suc, ◌+◌, ◌-◌, ◌*◌, ◌/◌, ◌%◌, ◌≤◌, ◌<◌}
use native.Mathlib.Omega.{arith}
use lib.ListN.{length, get_or, take, drop, take-append-drop, length-drop}
use lib.Seq.{take_all, take-nil, take-take}
use lib.Dec.{eqb, ltb}
use borrow.Author.Tests.{eqb-true, eqb-false, ltb-false, not-false, le-ltb}
use Rattle.prelude.proofs.Choice.{split}
use Rattle.layout.specs.Size.{slots_of}
use Rattle.prelude.specs.Range.{any_of}
use Rattle.prelude.proofs.Any.{or_none, any_none, any_clear}
use Rattle.prelude.proofs.Refusals.{refuse_if_zero}
use Rattle.stores.specs.Store.{Store, zipped, less, standing, played}
use Rattle.stores.specs.Play.{half_fault, halves_fault, play_fault, counted, list_fault, play_end, play_result, play_list_result}
use Rattle.stores.specs.inner.Needs.{Makeable}
use Rattle.stores.proofs.StandingStores.{none_stands, one_stands, less_own, less_other, take_next}
use Rattle.stores.proofs.Plays.{zipped_short, list_fine}
use Rattle.prelude.specs.Refusal.{unless_refused}
use native.Mathlib.Decide.{dec_lt}

-- ---- stores of one line

pub data AllOn (n : ℕ) : List Store → Type 0 where
  none_on : AllOn n []
  one_on : {s : Store} {ss : List Store} → s.word / 8 ≡ n → AllOn n ss → AllOn n (s ∷ ss)

-- stores of line n, before others y: their first ones stand, and what stands of y does not ask for the count of line n
module _ (n : ℕ) (y : List Store) (rest : (ℕ → ℕ) → List Store)
    (other : (counts : ℕ → ℕ) → standing counts y ≡ rest counts) (skip : (counts : ℕ → ℕ) → rest (less n counts) ≡ rest counts) where
  first_half : {x : List Store} (counts : ℕ → ℕ) → AllOn n x → standing counts (x ++ y) ≡ take (counts n) x ++ rest counts
  first_half counts none_on = other counts ∙ ap (λ (t : List Store). t ++ rest counts) (sym (take-nil (counts n)))
  first_half counts (one_on {s = s} {ss = x} e r) = go (first_half counts r) (first_half (less n counts) r) (split (eqb (counts n) 0))
    where
      go : standing counts (x ++ y) ≡ take (counts n) x ++ rest counts → standing (less n counts) (x ++ y) ≡ take (less n counts n) x ++ rest (less n counts)
          → (eqb (counts n) 0 ≡ true) ⊎ (eqb (counts n) 0 ≡ false) → standing counts (s ∷ (x ++ y)) ≡ take (counts n) (s ∷ x) ++ rest counts
      go p q (inl z) =
          none_stands counts s (x ++ y) (ap counts e ∙ eqb-true (counts n) 0 z) ∙ p
          ∙ ap (λ (k : ℕ). take k x ++ rest counts) (eqb-true (counts n) 0 z)
          ∙ sym (ap (λ (k : ℕ). take k (s ∷ x) ++ rest counts) (eqb-true (counts n) 0 z))
      go p q (inr z) =
          one_stands counts s (x ++ y) (λ (w : counts (s.word / 8) ≡ 0). eqb-false (counts n) 0 z (sym (ap counts e) ∙ w))
          ∙ ap (λ (k : ℕ). s ∷ standing (less k counts) (x ++ y)) e
          ∙ ap (λ (t : List Store). s ∷ t) (q ∙ ap₂ (λ (k : ℕ) (t : List Store). take k x ++ t) (less_own n counts) (skip counts))
          ∙ sym (ap (λ (t : List Store). t ++ rest counts) (take_next (counts n) s x (eqb-false (counts n) 0 z)))

pub only_half : {x : List Store} (n : ℕ) (counts : ℕ → ℕ) → AllOn n x → standing counts x ≡ take (counts n) x
unfolding standing
only_half {x} n counts r =
    ap (standing counts) (sym (append-nil x)) ∙ first_half n [] (λ (k : ℕ → ℕ). []) (λ k. refl) (λ k. refl) counts r
    ∙ append-nil (take (counts n) x)

pub two_halves : {x y : List Store} (n o : ℕ) (counts : ℕ → ℕ) → (o ≡ n → ⊥) → AllOn n x → AllOn o y
    → standing counts (x ++ y) ≡ take (counts n) x ++ take (counts o) y
two_halves {x} {y} n o counts ne p q =
    first_half n y (λ k. take (k o) y) (λ k. only_half o k q) (λ k. ap (λ (j : ℕ). take j y) (less_other n k o ne)) counts p

-- ---- what play asks

-- eight stores from k on, words 0 to 7 of one line inside an image of len bytes, in order
pub record Half (len : ℕ) (at : List ℕ) (k : ℕ) : Type 0 where
  pub start : get_or at k 0 % 8 ≡ 0
  pub room : 8 * get_or at k 0 + 64 ≤ len
  pub order : (i : ℕ) → i < 8 → get_or at (k + i) 0 ≡ get_or at k 0 + i

pub a_half : (len : ℕ) (at : List ℕ) (k : ℕ) → half_fault len at k ≡ false → Half len at k
unfolding half_fault
a_half len at k e =
    let aligned = or_none (not (eqb (get_or at k 0 % 8) 0)) _ e in
    let inside = or_none (ltb len (8 * get_or at k 0 + 64)) _ aligned.1 in
    record {
      start = eqb-true (get_or at k 0 % 8) 0 (not-false _ aligned.0);
      room = ltb-false len (8 * get_or at k 0 + 64) inside.0;
      order =
          λ i h.
          eqb-true (get_or at (k + i) 0) (get_or at k 0 + i)
          (not-false _ (ap differs (omega arith) ∙ any_none differs 0 8 inside.1 i h));
    }
  where
    differs : ℕ → Bool
    differs i = not (eqb (get_or at (k + i) 0) (get_or at k 0 + i))

pub record Playable (len : ℕ) (at : List ℕ) (a b : ℕ) : Type 0 where
  pub first_count : a ≤ 8
  pub second_count : b ≤ 8
  pub first : Half len at 0
  pub second : Half len at 8
  pub apart : get_or at 0 0 ≡ get_or at 8 0 → ⊥

pub playable : (len : ℕ) (at : List ℕ) (a b : ℕ) → play_fault len at a b ≡ 0 → Playable len at a b
unfolding play_fault halves_fault
playable len at a b e =
    let sized = refuse_if_zero (eqb (slots_of len) 0) _ _ e (omega arith) in
    let front = refuse_if_zero (ltb 8 a) _ _ sized.1 (omega arith) in
    let back = refuse_if_zero (ltb 8 b) _ _ front.1 (omega arith) in
    let one = refuse_if_zero (half_fault len at 0) _ _ back.1 (omega arith) in
    let two = refuse_if_zero (half_fault len at 8) _ _ one.1 (omega arith) in
    let differ = refuse_if_zero (eqb (get_or at 0 0) (get_or at 8 0)) _ _ two.1 (omega arith) in
    record {
      first_count = ltb-false 8 a front.0;
      second_count = ltb-false 8 b back.0;
      first = a_half len at 0 one.0;
      second = a_half len at 8 two.0;
      apart = eqb-false (get_or at 0 0) (get_or at 8 0) differ.0;
    }

-- ---- play with two counts

-- stores from k on, c of them, whose word numbers are of line n
zipped_on : (at value : List ℕ) (n k c : ℕ) → ((i : ℕ) → i < c → get_or at (k + i) 0 / 8 ≡ n) → AllOn n (take c (drop k (zipped at value)))
unfolding zipped
zipped_on at value n k zero h = none_on
zipped_on [] value n zero (suc c) h = none_on
zipped_on [] value n (suc k) (suc c) h = none_on
zipped_on (w ∷ at) [] n zero (suc c) h = none_on
zipped_on (w ∷ at) [] n (suc k) (suc c) h = none_on
zipped_on (w ∷ at) (v ∷ value) n zero (suc c) h =
    one_on {s = record { word = w; value = v }} (h 0 (omega arith))
    (zipped_on at value n 0 c
    (λ i p. let e : suc (0 + i) ≡ 0 + suc i = omega arith in ap (λ (x : ℕ). get_or (w ∷ at) x 0 / 8) e ∙ h (suc i) (omega arith)))
zipped_on (w ∷ at) (v ∷ value) n (suc k) (suc c) h =
    zipped_on at value n k (suc c)
    (λ i p. let e : suc (k + i) ≡ suc k + i = omega arith in ap (λ (x : ℕ). get_or (w ∷ at) x 0 / 8) e ∙ h i p)

-- two halves of eight, each on its line
pub counted_stands : (ss : List Store) (n o a b : ℕ) (counts : ℕ → ℕ) → a ≤ 8 → (o ≡ n → ⊥) → AllOn n (take 8 ss) → AllOn o (drop 8 ss)
    → counts n ≡ a → counts o ≡ b → counted a b ss ≡ standing counts ss
unfolding counted
counted_stands ss n o a b counts h ne p q e f =
    ap (λ (t : List Store). t ++ take b (drop 8 ss)) (sym (take-take a 8 ss h))
    ∙ ap₂ (λ (x y : ℕ). take x (take 8 ss) ++ take y (drop 8 ss)) (sym e) (sym f)
    ∙ sym (two_halves n o counts ne p q) ∙ ap (standing counts) (take-append-drop 8 ss)

-- PLAY WITH TWO COUNTS is what a cut with these counts leaves
pub play_stands : (len : ℕ) (at value : List ℕ) (a b : ℕ) (counts : ℕ → ℕ) → length at ≡ 16 → play_fault len at a b ≡ 0
    → counts (get_or at 0 0 / 8) ≡ a → counts (get_or at 8 0 / 8) ≡ b → counted a b (zipped at value) ≡ standing counts (zipped at value)
play_stands len at value a b counts long none e f =
    counted_stands ss (get_or at 0 0 / 8) (get_or at 8 0 / 8) a b counts fine.first_count
    (λ (q : get_or at 8 0 / 8 ≡ get_or at 0 0 / 8). fine.apart (omega (arith, fine.first.start, fine.second.start)))
    (zipped_on at value (get_or at 0 0 / 8) 0 8 (one_line 0 fine.first))
    (subst (AllOn (get_or at 8 0 / 8))
    (take_all 8 (drop 8 ss) (omega (arith, length-drop 8 ss, zipped_short at value)))
    (zipped_on at value (get_or at 8 0 / 8) 8 8 (one_line 8 fine.second)))
    e f
  where
    ss : List Store
    ss = zipped at value

    fine : Playable len at a b
    fine = playable len at a b none

    one_line : (k : ℕ) → Half len at k → (i : ℕ) → i < 8 → get_or at (k + i) 0 / 8 ≡ get_or at k 0 / 8
    one_line k half i h = omega (arith, half.order i h, half.start)

-- the first stores of such a half can be made
pub half_makeable : (len size : ℕ) (at value : List ℕ) (k c : ℕ) → Half len at k → c ≤ 8 → k ≤ 8 → length at ≡ 16 → length value ≡ 16
    → size ≡ len → Makeable size at value k c
half_makeable len size at value k c h g l p q e =
    record {
      numbers = omega arith;
      values = omega arith;
      inside =
          λ i low high.
          omega (arith, h.order (i - k) (omega arith), h.room, ap (λ (x : ℕ). get_or at x 0) (back i low));
    }
  where
    back : (i : ℕ) → k ≤ i → k + (i - k) ≡ i
    back i low = omega arith

-- and so can a list that play does not refuse
pub list_makeable : (len : ℕ) (at value : List ℕ) → list_fault len at (length value) ≡ 0 → Makeable len at value 0 (length at)
unfolding list_fault
list_makeable len at value e =
    let sizes = refuse_if_zero _ _ _ e (omega arith) in
    let fine = refuse_if_zero _ _ _ sizes.1 (omega arith) in
    let same : length at ≡ length value = eqb-true _ _ (not-false _ sizes.0) in
    record {
      numbers = omega arith;
      values = omega arith;
      inside = λ i low high. ltb-false len (8 * get_or at i 0 + 8) (at_place i fine.0 (omega arith));
    }
  where
    at_place : (i : ℕ) → any_of (λ j. ltb len (8 * get_or at j 0 + 8)) 0 (length at) ≡ false → i < length at → ltb len (8 * get_or at i 0 + 8) ≡ false
    at_place i none h =
        let z : i ≡ 0 + i = omega arith in
        ap (λ (x : ℕ). ltb len (8 * get_or at x 0 + 8)) z ∙ any_none (λ j. ltb len (8 * get_or at j 0 + 8)) 0 (length at) none i h

-- ---- sixteen stores that play takes, made as a list

zipped_full : (at value : List ℕ) (n : ℕ) → length at ≡ n → length value ≡ n → length (zipped at value) ≡ n
unfolding zipped
zipped_full [] value n e f = e
zipped_full (w ∷ at) [] n e f = absurd (omega arith)
zipped_full (w ∷ at) (v ∷ value) zero e f = absurd (omega arith)
zipped_full (w ∷ at) (v ∷ value) (suc n) e f = ap suc (zipped_full at value n (omega arith) (omega arith))

-- all of them are counted
counted-all : (ss : List Store) → length ss ≡ 16 → counted 8 8 ss ≡ ss
unfolding counted
counted-all ss e =
    ap (λ (t : List Store). take 8 ss ++ t) (take_all 8 (drop 8 ss) (omega (arith, length-drop 8 ss))) ∙ take-append-drop 8 ss

halves_inside : (len : ℕ) (at : List ℕ) → Half len at 0 → Half len at 8 → (i : ℕ) → i < 16 → ltb len (8 * get_or at (0 + i) 0 + 8) ≡ false
halves_inside len at f s i h = le-ltb len (8 * get_or at (0 + i) 0 + 8) (by_cases (dec_lt i 8) early (λ l. late (i - 8) (omega (arith, l))))
  where
    early : i < 8 → 8 * get_or at (0 + i) 0 + 8 ≤ len
    early l = omega (arith, f.order i l, f.room)

    late : (j : ℕ) → i ≡ 8 + j → 8 * get_or at (0 + i) 0 + 8 ≤ len
    late j e =
        let q : 0 + i ≡ 8 + j = omega arith in omega (arith, ap (λ (x : ℕ). get_or at x 0) q, s.order j (omega arith), s.room)

-- THE PLAY OF A LIST leaves what play with 8 and 8 leaves
pub list_plays : (image at value : List ℕ) → length at ≡ 16 → length value ≡ 16 → play_fault (length image) at 8 8 ≡ 0
    → play_list_result image at value ≡ play_result image at value 8 8
unfolding play_list_result play_result
list_plays image at value e f z =
    ap₂ (λ (k : ℕ) (t : List Store). play_end k (unless_refused k (played t image) image)) (sym fine ∙ sym z)
    (sym (counted-all (zipped at value) (zipped_full at value 16 e f)))
  where
    p : Playable (length image) at 8 8
    p = playable (length image) at 8 8 z

    fine : 0 ≡ list_fault (length image) at (length value)
    fine =
        list_fine (length image) at (length value) (e ∙ sym f) false
        (sym (any_clear _ 0 (length at) (λ i h. halves_inside (length image) at p.first p.second i (omega arith)))) refl
