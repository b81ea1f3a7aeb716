-- A line of output. Document 01, "The trial session": `ok N`, `ok slot version`, `found W`, `absent`, `cut A B`, and
-- `no` with a refusal's number. Document 02, A.9: "A line must read `80 1`, or `81 81` ..; all else prints nothing".
use Rattle.std.specs.Prelude.{cond, List, [], ◌∷◌, ◌++◌, ℕ, zero, suc, ◌+◌, ◌/◌, ◌%◌, ltb, length, set}

-- what a line of output says; `nothing` is no line
pub data Printed : Type 0 where
  ok : (numbers : List ℕ) → Printed
  found : (word : ℕ) → Printed
  not_held : Printed
  cut : (a b : ℕ) → Printed
  no : (number : ℕ) → Printed
  counted : (earlier later : ℕ) → Printed
  nothing : Printed

-- ---- as bytes

-- the decimal digits of n, at most `places`, and after them the bytes `rest`: of a number below 10, its one digit; of
-- another, the digits of its tenth and its last one
unfoldable pub digits_onto : (places n : ℕ) → (rest : List ℕ) → List ℕ
digits_onto zero n rest = rest
digits_onto (suc places) n rest = cond (ltb n 10) ((48 + n) ∷ rest) (digits_onto places (n / 10) ((48 + n % 10) ∷ rest))

-- the decimal digits of n; a number below 2^64 has at most 20
unfoldable pub decimal : (n : ℕ) → List ℕ
decimal n = digits_onto 20 n []

-- each number after a space, and then the end of the line
unfoldable pub numbers_text : List ℕ → List ℕ
numbers_text [] = 10 ∷ []
numbers_text (n ∷ numbers) = (32 ∷ decimal n) ++ numbers_text numbers

-- a line of numbers alone, with one space between
unfoldable pub line_text : List ℕ → List ℕ
line_text [] = 10 ∷ []
line_text (n ∷ numbers) = decimal n ++ numbers_text numbers

-- the word in ASCII and the numbers after it; two counts stand alone
unfoldable pub text : Printed → List ℕ
text (ok numbers) = (111 ∷ 107 ∷ []) ++ numbers_text numbers
text (found word) = (102 ∷ 111 ∷ 117 ∷ 110 ∷ 100 ∷ []) ++ numbers_text (word ∷ [])
text not_held = (97 ∷ 98 ∷ 115 ∷ 101 ∷ 110 ∷ 116 ∷ []) ++ numbers_text []
text (cut a b) = (99 ∷ 117 ∷ 116 ∷ []) ++ numbers_text (a ∷ b ∷ [])
text (no number) = (110 ∷ 111 ∷ []) ++ numbers_text (number ∷ [])
text (counted earlier later) = line_text (earlier ∷ later ∷ [])
text nothing = []

-- ---- in the lent output

-- out with these bytes from position at on
unfoldable pub written : (out : List ℕ) → (at : ℕ) → List ℕ → List ℕ
written out at [] = out
written out at (byte ∷ bytes) = written (set out at byte) (suc at) bytes

-- the position after the line, and the output with it
pub record Rendered : Type 0 where
  pub end : ℕ
  pub output : List ℕ

-- what a call left that returned this end
abbrev pub render_end : (end : ℕ) → (output : List ℕ) → Rendered
render_end end output = record { end = end; output = output }

-- the line from position at on; nothing where fewer than 64 bytes are left there
unfoldable pub render_result : Printed → (out : List ℕ) → (at : ℕ) → Rendered
render_result p out at =
    cond (ltb (length out) (at + 64)) (render_end at out) (render_end (at + length (text p)) (written out at (text p)))
