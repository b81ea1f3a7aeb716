-- What the functions on a payload line compute: the search from word 7 down, and the line's bit_pair. Assumes nothing.
use mathlib.Core.Path.{◌≡◌, refl, sym, ap, ap₂, ◌∙◌, fun_ext}
use mathlib.Core.List.{List}
use Prim.Native.Nat.{ℕ, ◌+◌, ◌-◌, ◌*◌, ◌/◌, ◌%◌, ◌^◌, ◌≤◌, ◌<◌}
use native.Mathlib.Nat.{mod-eq_of_lt}
use native.Mathlib.Omega.{arith}
use lib.Bits.{bit_xor}
use lib.Count.{count_trailing_zeros}
use lib.ListN.{length}
use Rattle.words.specs.Word.{word}
use Rattle.words.proofs.Laws.{word_past}
use Rattle.layout.specs.Line.{line}
use Rattle.message_log.specs.Bit.{bit_at, line_bit, differing_place, bit_position, bit_pair}
use Rattle.message_log.specs.Append.{message_line}
use Rattle.message_log.proofs.Differences.{last_place, at_zero}
use Rattle.message_log.proofs.Flexible.{none_left, passed, ended, place_within, place_apart, position_none, position_some}

old_word : (area : List ℕ) (n k : ℕ) → k < 8 → line (word area) n k ≡ word area (8 * n + k)
old_word area n k h = ap (λ (x : ℕ). word area (8 * n + x)) (mod-eq_of_lt h)

-- ---- the search, for a new line of any words

module _ (area : List ℕ) (n : ℕ) (new : ℕ → ℕ) where
  -- the words from j on are equal: what is left of the search is the whole
  pub record Searching (j : ℕ) : Type 0 where
    pub place : j ≤ 8
    pub rest : differing_place 8 (line (word area) n) new ≡ differing_place j (line (word area) n) new

  pub search_start : Searching 8
  search_start = record { place = omega arith; rest = refl }

  pub search_passed : (j k w v : ℕ) → Searching j → 0 < j → k ≡ j - 1 → w ≡ word area (8 * n + k) → v ≡ new k → w ≡ v → Searching k
  search_passed j k w v g p q a b e =
      record {
        place = omega (arith, g.place);
        rest = g.rest ∙ passed (line (word area) n) new j k (omega arith) (old_word area n k (omega (arith, g.place)) ∙ sym a ∙ e ∙ b);
      }

  pub search_ended : (j k w v : ℕ) → Searching j → 0 < j → k ≡ j - 1 → w ≡ word area (8 * n + k) → v ≡ new k → (w ≡ v → ⊥)
      → k ≡ differing_place 8 (line (word area) n) new
  search_ended j k w v g p q a b ne =
      sym
      (g.rest
      ∙ ended (line (word area) n) new j k (omega arith)
      (λ (e : line (word area) n k ≡ new k). ne (a ∙ sym (old_word area n k (omega (arith, g.place))) ∙ e ∙ sym b)))

  pub search_equal : (j : ℕ) → Searching j → j ≡ 0 → 8 ≡ differing_place 8 (line (word area) n) new
  search_equal j g e = sym (g.rest ∙ ap (λ (x : ℕ). differing_place x (line (word area) n) new) e ∙ none_left (line (word area) n) new)

module _ (area : List ℕ) (n : ℕ) (message : List ℕ) (i : ℕ) where
  -- past its end the message is padded with zeros
  pub zeros_past : length message ≤ 64 * i → (place : ℕ) → place ≡ differing_place 8 (line (word area) n) (λ (j : ℕ). 0)
      → place ≡ differing_place 8 (line (word area) n) (message_line message i)
  zeros_past h place e =
      e ∙ ap (differing_place 8 (line (word area) n)) (fun_ext (λ (j : ℕ). sym (word_past message (8 * i + j) (omega arith))))

  -- ---- the bit_pair

  module _ (place : ℕ) (q : place ≡ differing_place 8 (line (word area) n) (message_line message i)) where
    pub pair_within : place ≤ 8
    pair_within = omega (arith, q, place_within (line (word area) n) (message_line message i))

    pub pair_none : (x : ℕ) → place ≡ 8 → x ≡ word message (8 * i) → 512 * (x % 2) ≡ bit_pair (line (word area) n) (message_line message i)
    unfolding bit_pair
    pair_none x z e =
        omega (arith, at, ap (line_bit (message_line message i)) at ∙ at_zero (message_line message i 0) ∙ ap (λ (y : ℕ). y % 2) first)
      where
        at : bit_position (line (word area) n) (message_line message i) ≡ 0
        at = position_none (line (word area) n) (message_line message i) (sym q ∙ z)

        first : message_line message i 0 ≡ x
        first = ap (word message) (let t : 8 * i + 0 ≡ 8 * i = omega arith in t) ∙ sym e

    module _ (a b : ℕ) (some : place ≡ 8 → ⊥) (e : a ≡ word area (8 * n + place)) (f : b ≡ word message (8 * i + place)) where
      pub pair_place : place < 8
      pair_place = omega (arith, pair_within)

      pub pair_apart : a ≡ b → ⊥
      pair_apart same =
          place_apart (line (word area) n) (message_line message i) place (sym q) some (old_word area n place pair_place ∙ sym e ∙ same ∙ f)

      pub pair_some : (r : ℕ) → a < 2 ^ 64 → b < 2 ^ 64 → r ≡ 64 * place + count_trailing_zeros 64 (bit_xor a b) + 512 * bit_at b
          (count_trailing_zeros 64 (bit_xor a b))
          → r ≡ bit_pair (line (word area) n) (message_line message i)
      unfolding bit_pair
      pair_some r ha hb h =
          h
          ∙ ap₂ (λ (x y : ℕ). 64 * place + x + 512 * y) tz_is (ap₂ bit_at (f ∙ ap (message_line message i) (sym word_at)) (tz_is ∙ sym place_at))
          ∙ ap (λ (x : ℕ). x + 512 * line_bit (message_line message i) (bit_position (line (word area) n) (message_line message i))) (sym at)
        where
          tz_is : count_trailing_zeros 64 (bit_xor a b) ≡ count_trailing_zeros 64 (bit_xor (line (word area) n place) (message_line message i place))
          tz_is = ap₂ (λ (x y : ℕ). count_trailing_zeros 64 (bit_xor x y)) (e ∙ sym (old_word area n place pair_place)) f

          at : bit_position (line (word area) n) (message_line message i)
              ≡ 64 * place + count_trailing_zeros 64 (bit_xor (line (word area) n place) (message_line message i place))
          at = position_some (line (word area) n) (message_line message i) place (sym q) some

          low : count_trailing_zeros 64 (bit_xor a b) < 64
          low = last_place 64 a b ha hb pair_apart

          word_at : bit_position (line (word area) n) (message_line message i) / 64 ≡ place
          word_at = omega (arith, at, tz_is, low)

          place_at : bit_position (line (word area) n) (message_line message i) % 64
              ≡ count_trailing_zeros 64 (bit_xor (line (word area) n place) (message_line message i place))
          place_at = omega (arith, at, tz_is, low)

  -- ---- the bit that a bit_pair names

  pub pair_bit : (bit_pair w x : ℕ) → bit_pair < 1024 → w ≡ word area (8 * n + bit_pair % 512 / 64) → x ≡ bit_at w (bit_pair % 512 % 64)
      → x ≡ line_bit (line (word area) n) (bit_pair % 512)
  pair_bit bit_pair w x h e f =
      f ∙ ap (λ (y : ℕ). bit_at y (bit_pair % 512 % 64)) (e ∙ sym (old_word area n (bit_pair % 512 / 64) (omega arith)))

-- the sum that makes a bit_pair
pub pair_sum : (old new j t v : ℕ) → t ≡ count_trailing_zeros 64 (bit_xor old new) → v ≡ bit_at new t
    → 64 * j + t + 512 * v ≡ 64 * j + count_trailing_zeros 64 (bit_xor old new) + 512 * bit_at new (count_trailing_zeros 64 (bit_xor old new))
pair_sum old new j t v e f = ap₂ (λ (x y : ℕ). 64 * j + x + 512 * y) e (f ∙ ap (bit_at new) e)
