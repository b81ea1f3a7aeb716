-- The refusals 1, 2, 3 and 4, by what the tests on the image and the index gave. Assumes nothing.
use mathlib.Core.Path.{◌≡◌, refl, sym, ap, ◌∙◌, subst}
use mathlib.Core.Bool.{Bool, true, false, not, cond, true≢false}
use mathlib.Core.List.{List}
use mathlib.Core.Logic.{◌≢◌, by_cases}
use Prim.Native.Nat.{ℕ, ◌+◌, ◌≤◌}
use native.Mathlib.Decide.{ℕ_discrete}
use native.Mathlib.Omega.{arith}
use lib.Bits.{bit_or}
use lib.Dec.{eqb}
use borrow.Author.Tests.{eq-eqb, ne_eqb, eqb-true, eqb-false, not-false}
use Rattle.words.specs.Word.{word}
use Rattle.prelude.specs.Range.{any_of}
use Rattle.layout.specs.Size.{slots_in}
use Rattle.layout.specs.Header.{header_word, HeaderOf, header_fault, image_fault, index_fault, lent_fault}
use Rattle.prelude.proofs.Choice.{pick_false}
use Rattle.prelude.proofs.Any.{any_some, any_none}
use Rattle.prelude.proofs.Bits.{or_nonzero}
use Rattle.prelude.proofs.Refusals.{refuse_if-true, refuse_if-false, refuse_if_zero, or_else_first, or_else_later}

-- a word that is not zero
abbrev nonzero : (ℕ → ℕ) → ℕ → Bool
nonzero m i = not (eqb (m i) 0)

-- rest_differs: the words 2 to 7 in one
pub rest_in_one : (m : ℕ → ℕ) (a b c d e f : ℕ) → a ≡ m 2 → b ≡ m 3 → c ≡ m 4 → d ≡ m 5 → e ≡ m 6 → f ≡ m 7
    → not (eqb (bit_or (bit_or (bit_or (bit_or (bit_or a b) c) d) e) f) 0) ≡ any_of (nonzero m) 2 6
unfolding any_of
rest_in_one m a b c d e f p2 p3 p4 p5 p6 p7 =
    rw (p2, p3, p4, p5, p6, p7) (simp or_nonzero (nested (nonzero m 2) (nonzero m 3) (nonzero m 4) (nonzero m 5) (nonzero m 6) (nonzero m 7)))
  where
    nested : (x y z u v w : Bool)
        → cond (cond (cond (cond (cond x true y) true z) true u) true v) true w ≡
        cond x true (cond y true (cond z true (cond u true (cond v true (cond w true false)))))
    nested true y z u v w = refl
    nested false true z u v w = refl
    nested false false true u v w = refl
    nested false false false true v w = refl
    nested false false false false true w = refl
    nested false false false false false true = refl
    nested false false false false false false = refl

-- header_differs, by the words 0 and 1 and the rest
module _ (l n : ℕ) (m : ℕ → ℕ) where
  abbrev differs : ℕ → Bool
  differs i = not (eqb (m i) (header_word l n i))

  pub first_other : (v : ℕ) → v ≡ m 0 → (v ≡ n → ⊥) → true ≡ any_of differs 0 8
  unfolding header_word
  first_other v e ne = sym (any_some differs 0 8 0 (omega arith) (ap not (ne_eqb (m 0) n (λ q. ne (e ∙ q)))))

  pub second_other : (v : ℕ) → v ≡ m 1 → (v ≡ l → ⊥) → true ≡ any_of differs 0 8
  unfolding header_word
  second_other v e ne = sym (any_some differs 0 8 1 (omega arith) (ap not (ne_eqb (m 1) l (λ q. ne (e ∙ q)))))

  pub rest_decides : (v w : ℕ) → v ≡ m 0 → w ≡ m 1 → v ≡ n → w ≡ l → (r : Bool) → r ≡ any_of (nonzero m) 2 6 → r ≡ any_of differs 0 8
  unfolding header_word any_of
  rest_decides v w e f p q r g =
      g ∙ sym (pick_false (differs 0) _ _ (ap not (eq-eqb (m 0) n (sym e ∙ p))) ∙ pick_false (differs 1) _ _ (ap not (eq-eqb (m 1) l (sym f ∙ q))))

  first_same : any_of differs 0 8 ≡ false → m 0 ≡ n
  unfolding header_word
  first_same e =
      by_cases (ℕ_discrete (m 0) n) (λ (q : m 0 ≡ n). q)
      (λ (ne : m 0 ≢ n). absurd (true≢false (sym (ap not (ne_eqb (m 0) n ne)) ∙ any_none differs 0 8 e 0 (omega arith))))

-- header_fault: b says whether a word of the header is other than laid down, v is header word 0
module _ (l n : ℕ) (m : ℕ → ℕ) (b : Bool) (f : b ≡ any_of (λ i. not (eqb (m i) (header_word l n i))) 0 8) where
  pub header_right : 1 ≤ n → b ≡ false → 0 ≡ header_fault l n m
  unfolding header_fault
  header_right some t =
      sym (refuse_if-false _ _ _ (ne_eqb (m 0) 0 (λ q. omega (arith, some, q, first_same l n m (sym f ∙ t)))) ∙ refuse_if-false _ _ _ (sym f ∙ t))

  module _ (v : ℕ) (e : v ≡ m 0) where
    pub header_none : v ≡ 0 → 2 ≡ header_fault l n m
    unfolding header_fault
    header_none z = sym (refuse_if-true _ _ _ (eq-eqb (m 0) 0 (sym e ∙ z)))

    pub header_other : (v ≡ 0 → ⊥) → b ≡ true → 3 ≡ header_fault l n m
    unfolding header_fault
    header_other ne t =
        sym (refuse_if-false _ _ _ (ne_eqb (m 0) 0 (λ q. ne (e ∙ q))) ∙ refuse_if-true _ _ _ (sym f ∙ t))

-- image_fault: n is the slots of the image
module _ (l : ℕ) (image : List ℕ) (n : ℕ) (e : n ≡ slots_in image) where
  pub no_slots : n ≡ 0 → 1 ≡ image_fault l image
  unfolding image_fault
  no_slots z = sym (refuse_if-true _ _ _ (eq-eqb (slots_in image) 0 (sym e ∙ z)))

  pub by_header : (n ≡ 0 → ⊥) → (r : ℕ) → r ≡ header_fault l n (word image) → r ≡ image_fault l image
  unfolding image_fault
  by_header ne r f =
      f ∙ ap (λ (x : ℕ). header_fault l x (word image)) e
      ∙ sym (refuse_if-false _ _ _ (ne_eqb (slots_in image) 0 (λ q. ne (e ∙ q))))

-- lent_fault: fault is that of the image
module _ (l : ℕ) (image : List ℕ) (heads next fault : ℕ) (e : fault ≡ image_fault l image) where
  pub by_image : (fault ≡ 0 → ⊥) → fault ≡ lent_fault l image heads next
  unfolding lent_fault
  by_image ne = e ∙ sym (or_else_first _ _ (λ q. ne (e ∙ q)))

  pub by_index : fault ≡ 0 → (n r : ℕ) → n ≡ slots_in image → r ≡ index_fault n heads next → r ≡ lent_fault l image heads next
  unfolding lent_fault
  by_index z n r f g = g ∙ ap (λ (x : ℕ). index_fault x heads next) f ∙ sym (or_else_later _ _ (sym e ∙ z))

-- THE HEADER OF ANOTHER LAYOUT gives 3, and neither 1 nor 2 before it
module _ (l other : ℕ) (image : List ℕ) (apart : other ≡ l → ⊥) (h : HeaderOf other image) where
  pub other_image : image_fault l image ≡ 3
  unfolding image_fault header_fault header_word
  other_image =
      refuse_if-false _ 1 _ (ne_eqb (slots_in image) 0 h.some_slots)
      ∙ refuse_if-false _ 2 _ (ne_eqb (word image 0) 0 (λ z. h.some_slots (sym (h.words 0 (omega arith)) ∙ z)))
      ∙ refuse_if-true _ 3 0 (sym (second_other l (slots_in image) (word image) other (sym (h.words 1 (omega arith))) apart))

  pub other_lent : (heads next : ℕ) → lent_fault l image heads next ≡ 3
  unfolding lent_fault
  other_lent heads next = or_else_first _ _ (λ z. let e = other_image in omega arith) ∙ other_image

-- AN IMAGE THAT PASSES 1, 2 and 3 has the header of the layout
pub image_header : (l : ℕ) (image : List ℕ) → image_fault l image ≡ 0 → HeaderOf l image
unfolding image_fault header_fault
image_header l image z =
    let a = refuse_if_zero _ 1 _ z (omega arith) in
    let b = refuse_if_zero _ 2 _ a.1 (omega arith) in
    let c = refuse_if_zero _ 3 _ b.1 (omega arith) in
    record {
      some_slots = eqb-false (slots_in image) 0 a.0;
      words = λ i h.
          let e : 0 + i ≡ i = omega arith in
          subst (λ (k : ℕ). word image k ≡ header_word l (slots_in image) k) e
          (eqb-true (word image (0 + i)) (header_word l (slots_in image) (0 + i))
          (not-false _ (any_none (λ k. not (eqb (word image k) (header_word l (slots_in image) k))) 0 8 c.0 i h)));
    }
