-- The bytes of a value past a position, word by word: a byte of a word from byte r on is not zero exactly when the word
-- shifted by r bytes is not. Assumes nothing.
use mathlib.Core.Path.{◌≡◌, refl, sym, ap, ap₂, ◌∙◌}
use mathlib.Core.Bool.{Bool, true, false, not, cond}
use mathlib.Core.Logic.{by_cases}
use Prim.Native.Nat.{ℕ, zero, suc, ◌+◌, ◌-◌, ◌*◌, ◌/◌, ◌%◌, ◌^◌, ◌≤◌, ◌<◌}
use native.Mathlib.Nat.{pow-suc, div-div-eq-div-mul, div-eq_of_lt}
use native.Mathlib.Decide.{dec_lt}
use native.Mathlib.Omega.{arith}
use lib.Dec.{eqb}
use lib.Pow.{pow-add}
use borrow.Author.Tests.{eq-eqb, ne_eqb}
use Rattle.prelude.proofs.Choice.{pick_true, pick_false}
use Rattle.prelude.specs.Range.{any_of}
use Rattle.prelude.proofs.Any.{any_split, any_alike}
use Rattle.layout.specs.Record.{limit, value_word, value_byte}

-- ---- the bytes of one word

byte_or_more : (x : ℕ) → cond (not (eqb (x % 256) 0)) true (not (eqb (x / 256) 0)) ≡ not (eqb x 0)
byte_or_more x =
    by_cases (dec_lt 0 (x % 256))
    (λ h.
    pick_true (not (eqb (x % 256) 0)) _ _ (ap not (ne_eqb (x % 256) 0 (λ e. omega arith)))
    ∙ sym (ap not (ne_eqb x 0 (λ e. omega arith))))
    (λ h.
    pick_false (not (eqb (x % 256) 0)) _ _ (ap not (eq-eqb (x % 256) 0 (omega arith)))
    ∙ by_cases (dec_lt 0 (x / 256))
    (λ g. ap not (ne_eqb (x / 256) 0 (λ e. omega arith)) ∙ sym (ap not (ne_eqb x 0 (λ e. omega arith))))
    (λ g. ap not (eq-eqb (x / 256) 0 (omega arith)) ∙ sym (ap not (eq-eqb x 0 (omega arith)))))

word_tail : (w n r : ℕ) → r + n ≡ 8 → w < 2 ^ 64 → any_of (λ j. not (eqb (w / 256 ^ j % 256) 0)) r n ≡ not (eqb (w / 256 ^ r) 0)
unfolding any_of
word_tail w zero r e b = sym (ap (λ (x : ℕ). not (eqb (w / 256 ^ x) 0)) eight ∙ ap not (eq-eqb (w / 256 ^ 8) 0 (div-eq_of_lt b)))
  where
    eight : r ≡ 8
    eight = omega arith
word_tail w (suc n) r e b =
    ap (λ (t : Bool). cond (not (eqb (w / 256 ^ r % 256) 0)) true t) (word_tail w n (suc r) (omega arith) b ∙ ap (λ (x : ℕ). not (eqb x 0)) next)
    ∙ byte_or_more (w / 256 ^ r)
  where
    next : w / 256 ^ suc r ≡ w / 256 ^ r / 256
    next = ap (λ (x : ℕ). w / x) (pow-suc 256 r) ∙ sym (div-div-eq-div-mul w (256 ^ r) 256)

shifted : (w r : ℕ) → w / 2 ^ (8 * r) ≡ w / 256 ^ r
shifted w zero = refl
shifted w (suc r) =
    ap (λ (x : ℕ). w / 2 ^ x) more ∙ ap (λ (x : ℕ). w / x) (pow-add 2 (8 * r) 8) ∙ sym (div-div-eq-div-mul w (2 ^ (8 * r)) (2 ^ 8))
    ∙ ap (λ (x : ℕ). x / 256) (shifted w r)
    ∙ div-div-eq-div-mul w (256 ^ r) 256 ∙ ap (λ (x : ℕ). w / x) (sym (pow-suc 256 r))
  where
    more : 8 * suc r ≡ 8 * r + 8
    more = omega arith

-- ---- the search: the words before i are done, and the bytes of word i below bits / 8
abbrev past : (l : ℕ) → (A B : ℕ → ℕ) → ℕ → Bool
past l A B k = not (eqb (value_byte l A B k) 0)

pub record TailLeft (l : ℕ) (A B : ℕ → ℕ) (size i bits : ℕ) : Type 0 where
  pub byte : ℕ
  pub bits_are : bits ≡ 8 * byte
  pub byte_low : byte < 8
  pub position : 8 * i + byte ≤ limit l
  pub rest : any_of (past l A B) (8 * i + byte) (limit l - (8 * i + byte)) ≡ any_of (past l A B) size (limit l - size)

pub left_start : (l : ℕ) (A B : ℕ → ℕ) (size : ℕ) → size ≤ limit l → TailLeft l A B size (size / 8) (8 * (size % 8))
left_start l A B size h =
    record {
      byte = size % 8;
      bits_are = refl;
      byte_low = omega arith;
      position = omega arith;
      rest = ap (λ (k : ℕ). any_of (past l A B) k (limit l - k)) whole;
    }
  where
    whole : 8 * (size / 8) + size % 8 ≡ size
    whole = omega arith

module _ (l : ℕ) (A B : ℕ → ℕ) (size i bits w : ℕ) (low : 1 ≤ l) (g : TailLeft l A B size i bits) (h : i < 11 - l) (e : w ≡ value_word l A B i) (b : w < 2 ^ 64)
  where
    in_word : (j : ℕ) → g.byte + j < 8 → past l A B (8 * i + g.byte + j) ≡ not (eqb (w / 256 ^ (g.byte + j) % 256) 0)
    unfolding value_byte
    in_word j p =
        ap₂ (λ (x y : ℕ). not (eqb (value_word l A B x / 256 ^ y % 256) 0)) word_of byte_of
        ∙ ap (λ (x : ℕ). not (eqb (x / 256 ^ (g.byte + j) % 256) 0)) (sym e)
      where
        word_of : (8 * i + g.byte + j) / 8 ≡ i
        word_of = omega arith

        byte_of : (8 * i + g.byte + j) % 8 ≡ g.byte + j
        byte_of = omega arith

    -- this word's test, and the words after it
    turn : any_of (past l A B) (8 * i + g.byte) (limit l - (8 * i + g.byte)) ≡
        cond (not (eqb (w / 2 ^ bits) 0)) true (any_of (past l A B) (8 * (i + 1)) (limit l - 8 * (i + 1)))
    turn =
        ap (any_of (past l A B) (8 * i + g.byte)) parts ∙ any_split (past l A B) (8 * i + g.byte) (8 - g.byte) (limit l - 8 * (i + 1))
        ∙ ap₂ (λ (x : Bool) (k : ℕ). cond x true (any_of (past l A B) k (limit l - 8 * (i + 1)))) here along
      where
        parts : limit l - (8 * i + g.byte) ≡ 8 - g.byte + (limit l - 8 * (i + 1))
        parts = omega (arith, g.byte_low, g.position)

        along : 8 * i + g.byte + (8 - g.byte) ≡ 8 * (i + 1)
        along = omega (arith, g.byte_low)

        here : any_of (past l A B) (8 * i + g.byte) (8 - g.byte) ≡ not (eqb (w / 2 ^ bits) 0)
        here =
            any_alike (past l A B) (λ j. not (eqb (w / 256 ^ j % 256) 0)) (8 * i + g.byte) g.byte (8 - g.byte)
            (λ j q. in_word j (omega (arith, g.byte_low)))
            ∙ word_tail w (8 - g.byte) g.byte (omega (arith, g.byte_low)) b
            ∙ ap (λ (x : ℕ). not (eqb x 0)) (sym (ap (λ (x : ℕ). w / 2 ^ x) g.bits_are ∙ shifted w g.byte))

    pub left_hit : (w / 2 ^ bits ≡ 0 → ⊥) → true ≡ any_of (past l A B) size (limit l - size)
    left_hit ne = sym (turn ∙ pick_true (not (eqb (w / 2 ^ bits) 0)) _ _ (ap not (ne_eqb (w / 2 ^ bits) 0 ne))) ∙ g.rest

    pub left_next : w / 2 ^ bits ≡ 0 → TailLeft l A B size (i + 1) 0
    left_next z =
        record {
          byte = 0;
          bits_are = refl;
          byte_low = omega arith;
          position = omega (arith, h);
          rest =
              ap (λ (k : ℕ). any_of (past l A B) k (limit l - k)) start
              ∙ sym (turn ∙ pick_false (not (eqb (w / 2 ^ bits) 0)) _ _ (ap not (eq-eqb (w / 2 ^ bits) 0 z))) ∙ g.rest;
        }
      where
        start : 8 * (i + 1) + 0 ≡ 8 * (i + 1)
        start = omega arith

pub left_end : (l : ℕ) (A B : ℕ → ℕ) (size i bits : ℕ) → l ≤ 2 → TailLeft l A B size i bits → 11 - l ≤ i → false ≡ any_of (past l A B) size (limit l - size)
unfolding any_of
left_end l A B size i bits high g h = ap (any_of (past l A B) (8 * i + g.byte)) none ∙ g.rest
  where
    none : 0 ≡ limit l - (8 * i + g.byte)
    none = omega (arith, g.position)
