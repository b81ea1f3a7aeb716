-- The flexible validity bit of a payload line (source document 000, section 3.1.3; document 02, A.10). A line is given
-- by its words, ℕ → ℕ.
use Rattle.std.specs.Prelude.{cond, ℕ, zero, suc, ◌+◌, ◌*◌, ◌/◌, ◌%◌, ◌^◌, eqb}
use Rattle.std.specs.Int.Bits.{bit_xor}
use Rattle.std.specs.Int.Count.{count_trailing_zeros}

-- bit i of a number
unfoldable pub bit_at : (x i : ℕ) → ℕ
bit_at x i = x / 2 ^ i % 2

-- the bit of a line at a position, 0 to 511: 64 positions to a word
abbrev pub line_bit : (L : ℕ → ℕ) → (position : ℕ) → ℕ
line_bit L position = bit_at (L (position / 64)) (position % 64)

-- "old and new words are compared from word 7 down to word 0, and the search ends at the first that differs": the place
-- of the highest of the first n words that differs, or 8, the place of none, where they are equal
unfoldable pub differing_place : (n : ℕ) → (old new : ℕ → ℕ) → ℕ
differing_place zero old new = 8
differing_place (suc j) old new = cond (eqb (old j) (new j)) (differing_place j old new) j

-- "words 0 up to that one are stored": how many these are; equal lines "store nothing"
unfoldable pub store_count : (place : ℕ) → ℕ
store_count place = cond (eqb place 8) 0 (suc place)

-- "The position is 64 times that word plus the trailing zeros of the difference"; "Equal lines take position 0"
unfoldable pub position_at : (place : ℕ) → (old new : ℕ → ℕ) → ℕ
position_at place old new = cond (eqb place 8) 0 (64 * place + count_trailing_zeros 64 (bit_xor (old place) (new place)))

unfoldable pub bit_position : (old new : ℕ → ℕ) → ℕ
bit_position old new = position_at (differing_place 8 old new) old new

-- "a 9-bit position, then the bit's value": the pair of a payload line
unfoldable pub bit_pair : (old new : ℕ → ℕ) → ℕ
bit_pair old new = bit_position old new + 512 * line_bit new (bit_position old new)

-- "six ten-bit pairs, the first lowest": the word that holds the n pairs from pair k on
unfoldable pub packed : (pairs : ℕ → ℕ) → (k n : ℕ) → ℕ
packed pairs k zero = 0
packed pairs k (suc n) = pairs k + 1024 * packed pairs (suc k) n

-- and pair i in a word
unfoldable pub pair_in : (w i : ℕ) → ℕ
pair_in w i = w / 1024 ^ i % 1024
