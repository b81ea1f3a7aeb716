-- The bytes that format leaves: format's result, and a formatted image: its words, its header and its table. Assumes nothing.
use mathlib.Core.Path.{◌≡◌, sym, ap, ap₂, ◌∙◌}
use mathlib.Core.Bool.{not}
use mathlib.Core.List.{List, [], ◌∷◌}
use Prim.Native.Nat.{ℕ, zero, suc, ◌+◌, ◌^◌, ◌≤◌, ◌<◌}
use native.Mathlib.Omega.{arith}
use lib.Dec.{eqb}
use lib.ListN.{length, replicate, length-replicate}
use borrow.Author.Tests.{eq-eqb, ne_eqb}
use Rattle.words.specs.Word.{word, set_word}
use Rattle.prelude.proofs.Choice.{pick_false}
use Rattle.words.proofs.Laws.{set_word-length, word_same, word_other}
use Rattle.prelude.specs.Refusal.{refuse_if, unless_refused}
use Rattle.prelude.specs.Answer.{gives, refused}
use Rattle.layout.specs.Size.{slots_of, slots_in}
use Rattle.layout.specs.Header.{header_word, header_fault, image_fault}
use Rattle.layout.specs.Content.{empty, contents_of}
use Rattle.prelude.proofs.Refusals.{refuse_if-true, refuse_if-false, taken_leaves, refused_keeps}
use Rattle.layout.proofs.Content.{blank_table}
use Rattle.layout.proofs.Size.{long}
use Rattle.prelude.proofs.Any.{any_clear}
use Rattle.calls.specs.Format.{FormatResult, format_fault, formatted, format_result}
use Rattle.prelude.proofs.Fills.{zeros}

-- ---- format: n is the slots of the image

module _ (n len : ℕ) (e : n ≡ slots_of len) (ne : n ≡ 0 → ⊥) where
  pub format_room : 384 ≤ len
  format_room = omega (arith, (long len (λ q. ne (e ∙ q))).size, (long len (λ q. ne (e ∙ q))).low)

  pub format_fits : n < 4294967296
  format_fits = omega (arith, e, (long len (λ q. ne (e ∙ q))).high)

-- 1 before 32
length_first : (l n : ℕ) → n ≡ 0 → format_fault l n ≡ 1
unfolding format_fault
length_first l n z = refuse_if-true _ _ _ (eq-eqb n 0 z)

pub some_slots : (l n f : ℕ) → f ≡ format_fault l n → f ≡ 0 → n ≡ 0 → ⊥
some_slots l n f q z e = omega (arith, q, length_first l n e)

-- what a call that gives n leaves
abbrev left : ℕ → List ℕ → FormatResult
left n bytes = record { answer = gives (n ∷ []); bytes = bytes }

module _ (l : ℕ) (image : List ℕ) (n : ℕ) (e : n ≡ slots_in image) where
  result_by : (f : ℕ) → format_fault l (slots_in image) ≡ f
      → format_result l image ≡
      unless_refused f (left (slots_in image) (formatted l (length image))) (record { answer = refused f; bytes = image })
  unfolding format_result
  result_by f q =
      ap
      (λ (x : ℕ).
      unless_refused x (left (slots_in image) (formatted l (length image))) (record { answer = refused x; bytes = image }))
      q

  here : (f : ℕ) → f ≡ format_fault l n → format_fault l (slots_in image) ≡ f
  here f q = ap (format_fault l) (sym e) ∙ sym q

  pub format_refused : (f : ℕ) → f ≡ format_fault l n → (f ≡ 0 → ⊥) → record { answer = refused f; bytes = image } ≡ format_result l image
  format_refused f q ne = sym (result_by f (here f q) ∙ refused_keeps _ _ f ne)

  pub format_done : (f : ℕ) → f ≡ format_fault l n → f ≡ 0 → (a b c : List ℕ) → a ≡ replicate (length image) 0 → b ≡ set_word a 0 n → c ≡ set_word b 1 l
      → record { answer = gives (n ∷ []); bytes = c } ≡ format_result l image
  unfolding formatted
  format_done f g z a b c p q r =
      ap₂ left e
      (r ∙ ap (λ (t : List ℕ). set_word t 1 l) (q ∙ ap₂ (λ (t : List ℕ) (x : ℕ). set_word t 0 x) p e))
      ∙ sym (result_by f (here f g) ∙ taken_leaves _ _ f z)

-- ---- a formatted image

pub formatted-length : (l len : ℕ) → length (formatted l len) ≡ len
unfolding formatted
formatted-length l len = set_word-length _ _ _ ∙ set_word-length _ _ _ ∙ length-replicate len 0

zero_word : (len i : ℕ) → word (replicate len 0) i ≡ 0
unfolding word
zero_word len i = simp (zeros len)

header_zero : (l n i : ℕ) → 2 ≤ i → header_word l n i ≡ 0
unfolding header_word
header_zero l n i h =
    pick_false (eqb i 0) _ _ (ne_eqb i 0 (λ e. omega arith)) ∙ pick_false (eqb i 1) _ _ (ne_eqb i 1 (λ e. omega arith))

module _ (l len : ℕ) (ne : slots_of len ≡ 0 → ⊥) (b : l < 2 ^ 64) where
  formatted_zero : word (formatted l len) 0 ≡ slots_of len
  unfolding formatted
  formatted_zero =
      word_other _ 1 0 l (λ e. omega arith)
      ∙ word_same (replicate len 0) 0 (slots_of len) (omega (arith, length-replicate {A = ℕ} len 0, (long len ne).size))
      (omega (arith, (long len ne).high))

  formatted_one : word (formatted l len) 1 ≡ l
  unfolding formatted
  formatted_one =
      word_same _ 1 l
      (omega (arith, set_word-length (replicate len 0) 0 (slots_of len), length-replicate {A = ℕ} len 0, (long len ne).size)) b

  pub formatted_later : (i : ℕ) → 2 ≤ i → word (formatted l len) i ≡ 0
  unfolding formatted
  formatted_later i h =
      word_other _ 1 i l (λ e. omega arith) ∙ word_other _ 0 i (slots_of len) (λ e. omega arith) ∙ zero_word len i

pub formatted-word : (l len i : ℕ) → (slots_of len ≡ 0 → ⊥) → l < 2 ^ 64 → word (formatted l len) i ≡ header_word l (slots_of len) i
unfolding header_word
formatted-word l len zero ne b = formatted_zero l len ne b
formatted-word l len (suc zero) ne b = formatted_one l len ne b
formatted-word l len (suc (suc i)) ne b =
    formatted_later l len ne b (suc (suc i)) (omega arith) ∙ sym (header_zero l (slots_of len) (suc (suc i)) (omega arith))

pub formatted_fault : (l len : ℕ) → (slots_of len ≡ 0 → ⊥) → l < 2 ^ 64 → image_fault l (formatted l len) ≡ 0
unfolding image_fault header_fault
formatted_fault l len ne b =
    ap (λ (x : ℕ). refuse_if (eqb (slots_of x) 0) 1 (header_fault l (slots_of x) (word (formatted l len)))) (formatted-length l len)
    ∙ refuse_if-false _ _ _ (ne_eqb (slots_of len) 0 ne)
    ∙ refuse_if-false _ _ _ (ne_eqb (word (formatted l len) 0) 0 (λ q. ne (sym (formatted_zero l len ne b) ∙ q)))
    ∙ refuse_if-false _ _ _
    (any_clear _ 0 8
    (λ i h. ap not (eq-eqb (word (formatted l len) (0 + i)) (header_word l (slots_of len) (0 + i)) (formatted-word l len (0 + i) ne b))))

-- a formatted image's slots are all empty
pub formatted_content : (l k len s : ℕ) → (slots_of len ≡ 0 → ⊥) → l < 2 ^ 64 → 1 ≤ s → contents_of k (formatted l len) s ≡ empty
formatted_content l k len s ne b h = blank_table k (word (formatted l len)) (λ i g. formatted_later l len ne b i (omega arith)) s h
