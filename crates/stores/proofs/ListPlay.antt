-- Play of a lent list of stores, one by one: laws.
use mathlib.Core.Path.{◌≡◌, refl, sym, ap, ap₂, ◌∙◌, subst}
use mathlib.Core.Bool.{Bool, true, false, cond, not}
use mathlib.Core.List.{List, [], ◌∷◌}
use Prim.Native.Nat.{ℕ, zero, suc, ◌+◌, ◌*◌, ◌≤◌, ◌<◌, ◌^◌}
use native.Mathlib.Nat.{add-zero, zero-add, add-suc}
use native.Mathlib.Omega.{arith}
use borrow.Author.Tests.{ltb-false, le-ltb}
use lib.Dec.{eqb, ltb}
use lib.ListN.{length, get_or, take}
use lib.Seq.{take-length}
use Rattle.prelude.specs.Refusal.{refuse_if}
use Rattle.prelude.specs.Range.{any_of}
use Rattle.prelude.proofs.Refusals.{refuse_if-true, refuse_if-false, refuse_if_zero, taken_leaves, alike}
use Rattle.prelude.proofs.Any.{any_none_at, any_clear_at}
use Rattle.words.specs.Word.{set_word}
use Rattle.stores.specs.Store.{Store, zipped, played}
use Rattle.stores.specs.Play.{word_numbers, values, list_fault, play_end, play_list_result}
use Rattle.stores.proofs.Lists.{zipped_back, numbers-length, values_length}
use Rattle.stores.specs.inner.List.{AllInside}

-- past the end of a list
abbrev pub none : Store
none = record { word = 0; value = 0 }

number_at : (list : List Store) (i : ℕ) → get_or (word_numbers list) i 0 ≡ (get_or list i none).word
unfolding word_numbers
number_at [] i = refl
number_at (s ∷ list) zero = refl
number_at (s ∷ list) (suc i) = number_at list i

-- ---- the refusal

module _ (len : ℕ) (list : List Store) where
  abbrev outside : ℕ → Bool
  outside k = ltb len (8 * get_or (word_numbers list) k 0 + 8)

  by_word : refuse_if (any_of outside 0 (length list)) 15 0 ≡ list_fault len (word_numbers list) (length (values list))
  unfolding list_fault
  by_word =
      ap (λ (n : ℕ). refuse_if (any_of outside 0 n) 15 0) (sym (numbers-length list))
      ∙ sym (refuse_if-false (not (eqb (length (word_numbers list)) (length (values list)))) 15 _
      (alike _ _ _ _ refl refl (numbers-length list ∙ sym (values_length list))))

  module _ (f : ℕ) (e : f ≡ list_fault len (word_numbers list) (length (values list))) where
    pub all_inside : f ≡ 0 → AllInside len list
    all_inside z i h =
        subst (λ (w : ℕ). 8 * w + 8 ≤ len) (number_at list i)
        (ltb-false len (8 * get_or (word_numbers list) i 0 + 8)
        (any_none_at outside (length list) (refuse_if_zero _ 15 0 (by_word ∙ sym e ∙ z) (omega arith)).0 i h))

  pub fault_inside : AllInside len list → 0 ≡ list_fault len (word_numbers list) (length (values list))
  fault_inside h =
      sym (refuse_if-false _ 15 0
      (any_clear_at outside (length list)
      (λ i l. le-ltb len (8 * get_or (word_numbers list) i 0 + 8) (subst (λ (w : ℕ). 8 * w + 8 ≤ len) (sym (number_at list i)) (h i l)))))
      ∙ by_word

  pub fault_outside : (AllInside len list → ⊥) → 15 ≡ list_fault len (word_numbers list) (length (values list))
  fault_outside ne = by_any (any_of outside 0 (length list)) refl
    where
      by_any : (b : Bool) → any_of outside 0 (length list) ≡ b → 15 ≡ list_fault len (word_numbers list) (length (values list))
      by_any true q = sym (refuse_if-true _ 15 0 q) ∙ by_word
      by_any false q = absurd (ne (all_inside 0 (sym (refuse_if-false _ 15 0 q) ∙ by_word) refl))

-- ---- the making

pub play_none : (list : List Store) (image : List ℕ) → image ≡ played (take 0 list) image
unfolding played
play_none list image = refl

one_more : (list : List Store) (image : List ℕ) (i : ℕ) → i < length list
    → set_word (played (take i list) image) (get_or list i none).word (get_or list i none).value ≡ played (take (suc i) list) image
unfolding played
one_more [] image i h = absurd (omega arith)
one_more (s ∷ list) image zero h = refl
one_more (s ∷ list) image (suc i) h = one_more list (set_word image s.word s.value) i (omega arith)

pub play_next : (list : List Store) (image : List ℕ) (i : ℕ) → i < length list
    → set_word (played (take i list) image) (get_or list i none).word (get_or list i none).value ≡ played (take (i + 1) list) image
play_next list image i h = one_more list image i h ∙ ap (λ (n : ℕ). played (take n list) image) (sym (add-suc i 0 ∙ ap suc (add-zero i)))

pub play_all : (list : List Store) (image : List ℕ) → played (take (length list) list) image ≡ played list image
play_all list image = ap (λ (ss : List Store). played ss image) (take-length list)

pub play_done : (image : List ℕ) (list : List Store) (f : ℕ) → f ≡ list_fault (length image) (word_numbers list) (length (values list)) → f ≡ 0 → (x : List ℕ)
    → x ≡ played list image
    → play_end 0 x ≡ play_list_result image (word_numbers list) (values list)
unfolding play_list_result
play_done image list f e z x p =
    ap₂ play_end (sym (sym e ∙ z))
    (p ∙ ap (λ (ss : List Store). played ss image) (sym (zipped_back list))
    ∙ sym (taken_leaves (played (zipped (word_numbers list) (values list)) image) image (list_fault (length image) (word_numbers list) (length (values list)))
    (sym e ∙ z)))
