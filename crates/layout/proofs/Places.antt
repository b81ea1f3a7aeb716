-- Where the words of a value stand in a slot: inside its body, each at a place of its own. Assumes nothing.
use mathlib.Core.Path.{◌≡◌, sym, ap, ◌∙◌}
use mathlib.Core.Logic.{by_cases}
use mathlib.Core.List.{List}
use Prim.Native.Nat.{ℕ, ◌+◌, ◌-◌, ◌*◌, ◌%◌, ◌≤◌, ◌<◌}
use native.Mathlib.Decide.{dec_lt}
use native.Mathlib.Omega.{arith}
use lib.Dec.{ltb}
use borrow.Author.Tests.{lt-ltb, le-ltb}
use Rattle.words.specs.Word.{word}
use Rattle.prelude.proofs.Choice.{pick_true, pick_false}
use Rattle.layout.specs.Line.{line_a, line_b}
use Rattle.layout.specs.Record.{Layout, value_place, slot_word, value_word}

-- in line A, and in line B
pub place_A : (l i : ℕ) → l + 2 + i < 7 → l + 2 + i ≡ value_place l i
unfolding value_place
place_A l i h = sym (pick_true (ltb (l + 2 + i) 7) _ _ (lt-ltb (l + 2 + i) 7 h))

pub place_B : (l i : ℕ) → 7 ≤ l + 2 + i → l + 4 + i ≡ value_place l i
unfolding value_place
place_B l i h = sym (pick_false (ltb (l + 2 + i) 7) _ _ (le-ltb (l + 2 + i) 7 h))

-- a later word stands at a later place
pub place_rises : (l i j : ℕ) → i < j → value_place l i < value_place l j
place_rises l i j h =
    by_cases (dec_lt (l + 2 + i) 7)
    (λ p.
    by_cases (dec_lt (l + 2 + j) 7) (λ q. omega (arith, place_A l i p, place_A l j q))
    (λ q. omega (arith, place_A l i p, place_B l j (omega arith))))
    (λ p. omega (arith, place_B l i (omega arith), place_B l j (omega arith)))

-- no mark, key word, kind word or stamp stands there
pub record InBody (l p : ℕ) : Type 0 where
  pub after_kind : l + 2 ≤ p
  pub no_stamp_A : p ≡ 7 → ⊥
  pub no_mark_B : p ≡ 8 → ⊥
  pub before_stamp_B : p < 15

pub place_in_body : (l i : ℕ) → Layout l → l + i < 11 → InBody l (value_place l i)
place_in_body l i lay h =
    by_cases (dec_lt (l + 2 + i) 7)
    (λ p.
    let e = place_A l i p in
    record {
      after_kind = omega arith;
      no_stamp_A = λ (q : value_place l i ≡ 7). omega arith;
      no_mark_B = λ (q : value_place l i ≡ 8). omega arith;
      before_stamp_B = omega arith;
    })
    (λ p.
    let e = place_B l i (omega arith) in
    record {
      after_kind = omega arith;
      no_stamp_A = λ (q : value_place l i ≡ 7). omega arith;
      no_mark_B = λ (q : value_place l i ≡ 8). omega arith;
      before_stamp_B = omega arith;
    })

-- ---- the words of a slot in an image

slot-word : (m : ℕ → ℕ) (s p : ℕ) → p < 16 → m (16 * s + p) ≡ slot_word (line_a m s) (line_b m s) p
unfolding slot_word
slot-word m s p h =
    by_cases (dec_lt p 8)
    (λ q.
    let e : 16 * s + p ≡ 8 * (2 * s) + p % 8 = omega arith in
    ap m e ∙ sym (pick_true (ltb p 8) _ _ (lt-ltb p 8 q)))
    (λ q.
    let e : 16 * s + p ≡ 8 * (2 * s + 1) + (p - 8) % 8 = omega arith in
    ap m e ∙ sym (pick_false (ltb p 8) _ _ (le-ltb p 8 (omega arith))))

-- word i of the value, by its place
pub value-word : (img : List ℕ) (l s i place r : ℕ) → place ≡ value_place l i → place < 16 → r ≡ word img (16 * s + place)
    → r ≡ value_word l (line_a (word img) s) (line_b (word img) s) i
unfolding value_word
value-word img l s i place r e h q =
    q ∙ slot-word (word img) s place h ∙ ap (slot_word (line_a (word img) s) (line_b (word img) s)) e
