-- The forms of a line. Document 01, "The trial session": "lines of decimal numbers with one space between", after a
-- letter.
use Rattle.std.specs.Prelude.{Bool, true, false, cond, List, [], ◌∷◌, ℕ, ◌+◌, ◌-◌, ◌*◌, ◌^◌, eqb, ltb}
use Rattle.text.specs.declared.Line.{Line}
use Rattle.text.specs.declared.Line.TheVariants.{New, Write, Remove, Get, Cut, Bad}

-- ---- a number

-- a decimal digit: one of the bytes 48 to 57
unfoldable pub is_digit : ℕ → Bool
is_digit byte = cond (ltb byte 48) false (cond (ltb 57 byte) false true)

-- is every byte a digit?
unfoldable pub are_digits : List ℕ → Bool
are_digits [] = true
are_digits (byte ∷ bytes) = cond (is_digit byte) (are_digits bytes) false

-- the number whose digits are those of n and then these
unfoldable pub value_from : (n : ℕ) → List ℕ → ℕ
value_from n [] = n
value_from n (byte ∷ bytes) = value_from (10 * n + (byte - 48)) bytes

-- the number that these digits write
unfoldable pub number_of : List ℕ → ℕ
number_of bytes = value_from 0 bytes

-- at least one digit, nothing but digits, and not "a number past 64 bits"
unfoldable pub is_number : List ℕ → Bool
is_number [] = false
is_number (byte ∷ bytes) = cond (are_digits (byte ∷ bytes)) (ltb (number_of (byte ∷ bytes)) (2 ^ 64)) false

-- ---- a line

-- the bytes before the first space
unfoldable pub first_field : List ℕ → List ℕ
first_field [] = []
first_field (byte ∷ bytes) = cond (eqb byte 32) [] (byte ∷ first_field bytes)

-- the fields after each space: "with one space between"
unfoldable pub later_fields : List ℕ → List (List ℕ)
later_fields [] = []
later_fields (byte ∷ bytes) = cond (eqb byte 32) (first_field bytes ∷ later_fields bytes) (later_fields bytes)

-- `n N`, `r K`, `g K`
unfoldable pub with_one : (letter n : ℕ) → Line
with_one letter n = cond (eqb letter 110) (New n) (cond (eqb letter 114) (Remove n) (cond (eqb letter 103) (Get n) Bad))

-- `p K W`, `c A B`
unfoldable pub with_two : (letter first second : ℕ) → Line
with_two letter first second = cond (eqb letter 112) (Write first second) (cond (eqb letter 99) (Cut first second) Bad)

-- a letter and the fields after it, which are one or two numbers
unfoldable pub with_numbers : (letter : ℕ) → List (List ℕ) → Line
with_numbers letter [] = Bad
with_numbers letter (a ∷ []) = cond (is_number a) (with_one letter (number_of a)) Bad
with_numbers letter (a ∷ b ∷ []) = cond (is_number a) (cond (is_number b) (with_two letter (number_of a) (number_of b)) Bad) Bad
with_numbers letter (a ∷ b ∷ field ∷ fields) = Bad

-- the first field is one byte, the letter
unfoldable pub with_fields : List ℕ → List (List ℕ) → Line
with_fields [] fields = Bad
with_fields (letter ∷ []) fields = with_numbers letter fields
with_fields (letter ∷ byte ∷ bytes) fields = Bad

-- what the bytes of a line, without its end, say
unfoldable pub line_of : List ℕ → Line
line_of bytes = with_fields (first_field bytes) (later_fields bytes)
