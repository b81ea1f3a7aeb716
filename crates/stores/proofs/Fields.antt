-- The fields of a record come back from its two lines, and the record has no fault. Assumes nothing.
use mathlib.Core.Path.{◌≡◌, refl, sym, ap, ap₂, ◌∙◌}
use mathlib.Core.Bool.{true, false, not}
use mathlib.Core.Logic.{by_cases}
use mathlib.Core.List.{List}
use Prim.Native.Nat.{ℕ, ◌+◌, ◌-◌, ◌/◌, ◌%◌, ◌^◌, ◌≤◌, ◌<◌}
use native.Mathlib.Decide.{dec_lt}
use native.Mathlib.Omega.{arith}
use lib.ListN.{length, get_or, get_or-eq_default}
use lib.Dec.{eqb, ltb, leb}
use borrow.Author.Tests.{eq-eqb, ne_eqb, lt-ltb, le-ltb, lt-leb}
use Rattle.words.specs.Word.{word}
use Rattle.prelude.proofs.Choice.{pick_true, pick_false}
use Rattle.words.proofs.Laws.{word_byte}
use Rattle.layout.specs.Line.{whole, version_of}
use Rattle.layout.specs.Slot.{paired}
use Rattle.layout.specs.Record.{key_of, key_word, kind_word, kind_of, length_of, size_field, limit, slot_word, value_word, value_byte, value_front, value_of}
use Rattle.layout.specs.Content.{content_of_record, content_of}
use Rattle.layout.specs.Fault.{bits_fault, kind_fault, kind_limit, word_fault, tail_fault, fault_of}
use Rattle.prelude.proofs.Any.{any_clear}
use Rattle.prelude.proofs.Refusals.{refuse_if-false, or_else_later}
use Rattle.prelude.proofs.Tabulate.{tabulate_list}
use Rattle.layout.proofs.KeyWords.{key_again}
use Rattle.layout.proofs.Places.{place_A, place_B}
use Rattle.layout.proofs.Content.{paired-by, valid_content}
use Rattle.stores.specs.Written.{placed_word, body_a, body_b, new_a, new_b}
use Rattle.stores.specs.Cut.{Fields, LawfulNumber, alone, shared, Lawful, a_put, a_remove}
use Rattle.stores.proofs.Placed.{placed_at}
use Rattle.stores.proofs.Line.{marked-body, marked-whole, marked-version}

-- ---- the words of the bodies

body_key : (l key kind number : ℕ) (value : List ℕ) (j : ℕ) → j < l → body_a l key kind number value (1 + j) ≡ key_word key j
unfolding body_a
body_key l key kind number value j h =
    pick_true (ltb (1 + j) (l + 1)) _ _ (lt-ltb (1 + j) (l + 1) (omega arith)) ∙ ap (key_word key) (omega arith)

body_kind : (l key kind number : ℕ) (value : List ℕ) → body_a l key kind number value (l + 1) ≡ kind_word kind (length value) number
unfolding body_a
body_kind l key kind number value =
    pick_false (ltb (l + 1) (l + 1)) _ _ (le-ltb (l + 1) (l + 1) (omega arith))
    ∙ pick_true (eqb (l + 1) (l + 1)) _ _ (eq-eqb (l + 1) (l + 1) refl)

body_value : (l key kind number : ℕ) (value : List ℕ) (i : ℕ) → l + 2 + i < 7 → body_a l key kind number value (l + 2 + i) ≡ word value i
unfolding body_a
body_value l key kind number value i h =
    pick_false (ltb (l + 2 + i) (l + 1)) _ _ (le-ltb (l + 2 + i) (l + 1) (omega arith))
    ∙ pick_false (eqb (l + 2 + i) (l + 1)) _ _ (ne_eqb (l + 2 + i) (l + 1) (λ (e : l + 2 + i ≡ l + 1). omega arith))
    ∙ ap (placed_word l value (limit l / 8)) (place_A l i h) ∙ placed_at l value (limit l / 8) i (omega arith)

body_more : (l : ℕ) (value : List ℕ) (i : ℕ) → 7 ≤ l + 2 + i → l + i < 11 → body_b l value (l + 4 + i - 8) ≡ word value i
unfolding body_b
body_more l value i h p =
    let along : 8 + (l + 4 + i - 8) ≡ l + 4 + i = omega arith in
    ap (placed_word l value (limit l / 8)) (along ∙ place_B l i h) ∙ placed_at l value (limit l / 8) i (omega arith)

-- ---- the kind word that is written, and its number
module _ (l stamp key kind number : ℕ) (value : List ℕ) (version : ℕ) (fine : Fields l key kind number value) where
  new_kind : new_a l stamp key kind number value version (l + 1) ≡ kind_word kind (length value) number
  new_kind =
      marked-body stamp version (body_a l key kind number value) (l + 1) (omega arith) (omega (arith, fine.layout.high))
      ∙ body_kind l key kind number value

  pub number_written : (A : ℕ → ℕ) → A (l + 1) ≡ new_a l stamp key kind number value version (l + 1) → size_field (A (l + 1)) ≡ number
  number_written A e = ap size_field (e ∙ new_kind) ∙ omega (arith, fine.kind_fits, fine.number_fits, fine.size)

-- ---- two lines that hold a record's words, over lines with stamps stampA and stampB
module _ (l stampA stampB key kind number : ℕ) (value : List ℕ) (version : ℕ) (fine : Fields l key kind number value) (A B : ℕ → ℕ)
    (onA : (i : ℕ) → i < 8 → A i ≡ new_a l stampA key kind number value version i)
    (onB : (i : ℕ) → i < 8 → B i ≡ new_b l stampB value version i) where
  in_a : (i : ℕ) → 0 < i → i < 7 → A i ≡ body_a l key kind number value i
  in_a i h p = onA i (omega arith) ∙ marked-body stampA version (body_a l key kind number value) i h p

  in_b : (i : ℕ) → 0 < i → i < 7 → B i ≡ body_b l value i
  in_b i h p = onB i (omega arith) ∙ marked-body stampB version (body_b l value) i h p

  pub the_version : version_of (A 7) ≡ version
  the_version = ap version_of (onA 7 (omega arith)) ∙ marked-version stampA version (body_a l key kind number value)

  pub the_pair : paired (A 0) (A 7) (B 0) (B 7) ≡ true
  the_pair =
      paired-by (A 0) (A 7) (B 0) (B 7)
      (record {
        first = ap₂ whole (onA 0 (omega arith)) (onA 7 (omega arith)) ∙ marked-whole stampA version (body_a l key kind number value);
        second = ap₂ whole (onB 0 (omega arith)) (onB 7 (omega arith)) ∙ marked-whole stampB version (body_b l value);
        one_version = the_version ∙ sym (ap version_of (onB 7 (omega arith)) ∙ marked-version stampB version (body_b l value));
      })

  pub the_kind_word : A (l + 1) ≡ kind_word kind (length value) number
  the_kind_word = onA (l + 1) (omega (arith, fine.layout.high)) ∙ new_kind l stampA key kind number value version fine

  pub the_kind : kind_of (A (l + 1)) ≡ kind
  the_kind = ap kind_of the_kind_word ∙ omega (arith, fine.kind_fits)

  pub the_length : length_of (A (l + 1)) ≡ length value
  the_length = ap length_of the_kind_word ∙ omega (arith, fine.kind_fits, fine.size)

  the_number : size_field (A (l + 1)) ≡ number
  the_number = number_written l stampA key kind number value version fine A (onA (l + 1) (omega (arith, fine.layout.high)))

  pub the_key : key_of l A ≡ key
  the_key =
      key_again l A key
      (λ j h. in_a (1 + j) (omega arith) (omega (arith, fine.layout.high)) ∙ body_key l key kind number value j h) fine.key_fits

  pub the_word : (i : ℕ) → l + i < 11 → value_word l A B i ≡ word value i
  unfolding value_word slot_word
  the_word i h =
      by_cases (dec_lt (l + 2 + i) 7)
      (λ p.
      ap (slot_word A B) (sym (place_A l i p)) ∙ pick_true (ltb (l + 2 + i) 8) _ _ (lt-ltb (l + 2 + i) 8 (omega arith))
      ∙ in_a (l + 2 + i) (omega arith) p ∙ body_value l key kind number value i p)
      (λ p.
      ap (slot_word A B) (sym (place_B l i (omega arith))) ∙ pick_false (ltb (l + 4 + i) 8) _ _ (le-ltb (l + 4 + i) 8 (omega arith))
      ∙ in_b (l + 4 + i - 8) (omega arith) (omega arith) ∙ body_more l value i (omega arith) h)

  pub the_byte : (k : ℕ) → k < limit l → value_byte l A B k ≡ get_or value k 0
  unfolding value_byte
  the_byte k h = ap (λ (x : ℕ). x / 256 ^ (k % 8) % 256) (the_word (k / 8) (omega arith)) ∙ word_byte value k fine.bytes

  pub the_value : value_of l A B ≡ value
  unfolding value_of value_front
  the_value =
      ap (value_front l A B) the_length
      ∙ tabulate_list (value_byte l A B) value 0
      (λ i h. the_byte (0 + i) (omega (arith, fine.size)) ∙ ap (λ (x : ℕ). get_or value x 0) (omega arith))

  some_version : 0 < version → version_of (A 7) ≡ 0 → ⊥
  some_version h e = omega (arith, the_version, e)

  -- the content is the record
  pub the_content : 0 < version → content_of l A B ≡ content_of_record kind version key value
  the_content h = valid_content l A B the_pair (some_version h) ∙ rw (the_kind, the_version, the_key, the_value)

  -- ---- without a fault

  no_tail : tail_fault l A B (length value) ≡ false
  unfolding tail_fault
  no_tail =
      any_clear (λ (k : ℕ). not (eqb (value_byte l A B k) 0)) (length value) (limit l - length value)
      (λ i h.
      ap not
      (eq-eqb (value_byte l A B (length value + i)) 0
      (the_byte (length value + i) (omega arith) ∙ get_or-eq_default value 0 (omega arith))))

  right_number : Lawful kind number value → LawfulNumber number
  right_number (a_put _ n) = n
  right_number (a_remove _ _ n) = n

  no_bits : LawfulNumber number → bits_fault (A (l + 1)) ≡ false
  unfolding bits_fault
  no_bits n =
      pick_false (leb (2 ^ 24) (A (l + 1))) _ _
      (lt-leb (2 ^ 24) (A (l + 1)) (omega (arith, the_kind_word, fine.size, fine.kind_fits, fine.number_fits)))
      ∙ pick_false (eqb (size_field (A (l + 1))) 1) _ _ (ap (λ (x : ℕ). eqb x 1) the_number ∙ ne_eqb number 1 (not_one n))
      ∙ ap (ltb 8) the_number ∙ le-ltb 8 number (few n)
    where
      not_one : LawfulNumber number → number ≡ 1 → ⊥
      not_one (alone e) z = omega arith
      not_one (shared p q) z = omega arith

      few : LawfulNumber number → number ≤ 8
      few (alone e) = omega arith
      few (shared p q) = q

  no_kind : Lawful kind number value → kind_fault kind ≡ false
  unfolding kind_fault
  no_kind (a_put e _) = rw e
  no_kind (a_remove e _ _) = rw e

  no_length : Lawful kind number value → length value ≤ kind_limit l kind
  unfolding kind_limit
  no_length (a_put e _) = rw e (omega (arith, fine.size))
  no_length (a_remove e f _) = rw (e, f) (omega arith)

  no_word : Lawful kind number value → word_fault l (A (l + 1)) ≡ 0
  unfolding word_fault
  no_word good =
      refuse_if-false (bits_fault (A (l + 1))) 6 _ (no_bits (right_number good))
      ∙ refuse_if-false (kind_fault (kind_of (A (l + 1)))) 22 _ (ap kind_fault the_kind ∙ no_kind good)
      ∙ refuse_if-false (ltb (kind_limit l (kind_of (A (l + 1)))) (length_of (A (l + 1)))) 23 _
      (ap₂ (λ (x y : ℕ). ltb (kind_limit l x) y) the_kind the_length ∙ le-ltb (kind_limit l kind) (length value) (no_length good))

  pub the_fault : Lawful kind number value → fault_of l A B ≡ 0
  unfolding fault_of
  the_fault good =
      or_else_later (word_fault l (A (l + 1))) _ (no_word good)
      ∙ refuse_if-false (tail_fault l A B (length_of (A (l + 1)))) 24 0 (ap (tail_fault l A B) the_length ∙ no_tail)
