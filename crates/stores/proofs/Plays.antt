-- What the functions that give play's refusals need: each refusal from the tests that led to it. Assumes nothing.
use mathlib.Core.Path.{◌≡◌, refl, sym, ap, ap₂, ◌∙◌}
use mathlib.Core.Bool.{Bool, true, false, not}
use mathlib.Core.List.{List, [], ◌∷◌, ◌++◌}
use Prim.Native.Nat.{ℕ, ◌+◌, ◌*◌, ◌%◌, ◌≤◌, ◌<◌}
use native.Mathlib.Omega.{arith}
use lib.Dec.{eqb, ltb}
use lib.ListN.{length, get_or, take, drop}
use lib.Seq.{take_all}
use borrow.Author.Tests.{eq-eqb, ne_eqb, lt-ltb, le-ltb}
use Rattle.prelude.proofs.Choice.{pick_true, pick_false}
use Rattle.prelude.specs.Range.{any_of}
use Rattle.layout.specs.Size.{slots_of}
use Rattle.prelude.proofs.Refusals.{refuse_if-true, refuse_if-false, apart, alike, refused_keeps, taken_leaves}
use Rattle.words.specs.Word.{set_word}
use Rattle.stores.specs.Store.{Store, zipped, played}
use Rattle.stores.specs.Play.{play_end, half_fault, halves_fault, play_fault, counted, play_result, list_fault, play_list_result}

-- a half, by its first word number
module _ (len : ℕ) (at : List ℕ) (k first : ℕ) (e : first ≡ get_or at k 0) where
  pub half_start : (first % 8 ≡ 0 → ⊥) → true ≡ half_fault len at k
  unfolding half_fault
  half_start ne =
      sym (pick_true (not (eqb (get_or at k 0 % 8) 0)) _ _ (apart (first % 8) 0 _ _ (ap (λ (x : ℕ). x % 8) e) refl ne))

  pub half_room : first % 8 ≡ 0 → len < 8 * first + 64 → true ≡ half_fault len at k
  unfolding half_fault
  half_room z h =
      sym
      (pick_false (not (eqb (get_or at k 0 % 8) 0)) _ _ (alike (first % 8) 0 _ _ (ap (λ (x : ℕ). x % 8) e) refl z)
      ∙ pick_true (ltb len (8 * get_or at k 0 + 64)) _ _ (lt-ltb len (8 * get_or at k 0 + 64) (omega arith)))

  pub half_order : first % 8 ≡ 0 → 8 * first + 64 ≤ len → (r : Bool)
      → r ≡ any_of (λ i. not (eqb (get_or at (k + i) 0) (first + i))) 0 8 → r ≡ half_fault len at k
  unfolding half_fault
  half_order z h r f =
      f ∙ ap (λ (w : ℕ). any_of (λ i. not (eqb (get_or at (k + i) 0) (w + i))) 0 8) e
      ∙ sym
      (pick_false (not (eqb (get_or at k 0 % 8) 0)) _ _ (alike (first % 8) 0 _ _ (ap (λ (x : ℕ). x % 8) e) refl z)
      ∙ pick_false (ltb len (8 * get_or at k 0 + 64)) _ _ (le-ltb len (8 * get_or at k 0 + 64) (omega arith)))

-- the two halves
module _ (len : ℕ) (at : List ℕ) (p : Bool) (e : p ≡ half_fault len at 0) where
  pub halves_first : p ≡ true → 15 ≡ halves_fault len at
  unfolding halves_fault
  halves_first t = sym (refuse_if-true (half_fault len at 0) 15 _ (sym e ∙ t))

  module _ (np : p ≡ false) (q : Bool) (f : q ≡ half_fault len at 8) where
    pub halves_second : q ≡ true → 15 ≡ halves_fault len at
    unfolding halves_fault
    halves_second t = sym (refuse_if-false (half_fault len at 0) 15 _ (sym e ∙ np) ∙ refuse_if-true (half_fault len at 8) 15 _ (sym f ∙ t))

    module _ (nq : q ≡ false) where
      pub halves_same : get_or at 0 0 ≡ get_or at 8 0 → 15 ≡ halves_fault len at
      unfolding halves_fault
      halves_same t =
          sym
          (refuse_if-false (half_fault len at 0) 15 _ (sym e ∙ np) ∙ refuse_if-false (half_fault len at 8) 15 _ (sym f ∙ nq)
          ∙ refuse_if-true (eqb (get_or at 0 0) (get_or at 8 0)) 15 0 (eq-eqb (get_or at 0 0) (get_or at 8 0) t))

      pub halves_fine : (get_or at 0 0 ≡ get_or at 8 0 → ⊥) → 0 ≡ halves_fault len at
      unfolding halves_fault
      halves_fine t =
          sym
          (refuse_if-false (half_fault len at 0) 15 _ (sym e ∙ np) ∙ refuse_if-false (half_fault len at 8) 15 _ (sym f ∙ nq)
          ∙ refuse_if-false (eqb (get_or at 0 0) (get_or at 8 0)) 15 0 (ne_eqb (get_or at 0 0) (get_or at 8 0) t))

-- play with counts
module _ (len : ℕ) (at : List ℕ) (a b n : ℕ) (e : n ≡ slots_of len) where
  pub play_length : n ≡ 0 → 1 ≡ play_fault len at a b
  unfolding play_fault
  play_length z = sym (refuse_if-true (eqb (slots_of len) 0) 1 _ (eq-eqb (slots_of len) 0 (sym e ∙ z)))

  module _ (ne : n ≡ 0 → ⊥) where
    sized : eqb (slots_of len) 0 ≡ false
    sized = ne_eqb (slots_of len) 0 (λ z. ne (e ∙ z))

    pub play_first : 8 < a → 14 ≡ play_fault len at a b
    unfolding play_fault
    play_first h = sym (refuse_if-false (eqb (slots_of len) 0) 1 _ sized ∙ refuse_if-true (ltb 8 a) 14 _ (lt-ltb 8 a h))

    pub play_second : a ≤ 8 → 8 < b → 14 ≡ play_fault len at a b
    unfolding play_fault
    play_second h l =
        sym
        (refuse_if-false (eqb (slots_of len) 0) 1 _ sized ∙ refuse_if-false (ltb 8 a) 14 _ (le-ltb 8 a h)
        ∙ refuse_if-true (ltb 8 b) 14 _ (lt-ltb 8 b l))

    pub play_halves : a ≤ 8 → b ≤ 8 → (r : ℕ) → r ≡ halves_fault len at → r ≡ play_fault len at a b
    unfolding play_fault
    play_halves h l r f =
        f
        ∙ sym
        (refuse_if-false (eqb (slots_of len) 0) 1 _ sized ∙ refuse_if-false (ltb 8 a) 14 _ (le-ltb 8 a h)
        ∙ refuse_if-false (ltb 8 b) 14 _ (le-ltb 8 b l))

-- play of a list
module _ (len : ℕ) (at : List ℕ) (values : ℕ) where
  pub list_sizes : (length at ≡ values → ⊥) → 15 ≡ list_fault len at values
  unfolding list_fault
  list_sizes ne = sym (refuse_if-true (not (eqb (length at) values)) 15 _ (apart _ _ (length at) values refl refl ne))

  module _ (e : length at ≡ values) (p : Bool) (f : p ≡ any_of (λ i. ltb len (8 * get_or at i 0 + 8)) 0 (length at)) where
    pub list_outside : p ≡ true → 15 ≡ list_fault len at values
    unfolding list_fault
    list_outside t =
        sym
        (refuse_if-false (not (eqb (length at) values)) 15 _ (alike _ _ (length at) values refl refl e)
        ∙ refuse_if-true (any_of (λ i. ltb len (8 * get_or at i 0 + 8)) 0 (length at)) 15 0 (sym f ∙ t))

    pub list_fine : p ≡ false → 0 ≡ list_fault len at values
    unfolding list_fault
    list_fine t =
        sym
        (refuse_if-false (not (eqb (length at) values)) 15 _ (alike _ _ (length at) values refl refl e)
        ∙ refuse_if-false (any_of (λ i. ltb len (8 * get_or at i 0 + 8)) 0 (length at)) 15 0 (sym f ∙ t))

-- ---- what play leaves

pub zipped_short : (at value : List ℕ) → length (zipped at value) ≤ length at
unfolding zipped
zipped_short [] value = omega arith
zipped_short (w ∷ at) [] = omega arith
zipped_short (w ∷ at) (v ∷ value) = let h : length (zipped at value) ≤ length at = zipped_short at value in omega arith

pub played_append : (x y : List Store) (image : List ℕ) → played (x ++ y) image ≡ played y (played x image)
unfolding played
played_append [] y image = refl
played_append (s ∷ x) y image = played_append x y (set_word image s.word s.value)

module _ (image at value : List ℕ) (a b f : ℕ) (e : f ≡ play_fault (length image) at a b) where
  pub play_refused : (f ≡ 0 → ⊥) → play_end f image ≡ play_result image at value a b
  unfolding play_result
  play_refused ne =
      ap₂ play_end e
      (sym (refused_keeps (played (counted a b (zipped at value)) image) image (play_fault (length image) at a b) (λ z. ne (e ∙ z))))

  pub play_done : f ≡ 0 → (x y : List ℕ) → x ≡ played (take a (drop 0 (zipped at value))) image → y ≡ played (take b (drop 8 (zipped at value))) x
      → play_end 0 y ≡ play_result image at value a b
  unfolding play_result counted
  play_done z x y p q =
      ap₂ play_end (sym (sym e ∙ z))
      (q ∙ ap (played (take b (drop 8 (zipped at value)))) p ∙ sym (played_append (take a (zipped at value)) _ image)
      ∙ sym (taken_leaves (played (counted a b (zipped at value)) image) image (play_fault (length image) at a b) (sym e ∙ z)))

module _ (image at value : List ℕ) (f : ℕ) (e : f ≡ list_fault (length image) at (length value)) where
  pub list_refused : (f ≡ 0 → ⊥) → play_end f image ≡ play_list_result image at value
  unfolding play_list_result
  list_refused ne =
      ap₂ play_end e (sym (refused_keeps (played (zipped at value) image) image (list_fault (length image) at (length value)) (λ z. ne (e ∙ z))))

  pub list_done : f ≡ 0 → (x : List ℕ) → x ≡ played (take (length at) (drop 0 (zipped at value))) image → play_end 0 x ≡ play_list_result image at value
  unfolding play_list_result
  list_done z x p =
      ap₂ play_end (sym (sym e ∙ z))
      (p ∙ ap (λ (ss : List Store). played ss image) (take_all (length at) (zipped at value) (zipped_short at value))
      ∙ sym (taken_leaves (played (zipped at value) image) image (list_fault (length image) at (length value)) (sym e ∙ z)))
