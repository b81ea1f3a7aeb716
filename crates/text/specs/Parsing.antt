-- A line read byte by byte, with what was read so far kept in a `Parse`. The law `parsed` says that this finds the line
-- of all its bytes.
use Rattle.std.specs.Prelude.{cond, ℕ, ◌+◌, ◌-◌, ◌*◌, ◌^◌, eqb, ltb}
use Rattle.text.specs.Forms.{is_digit, with_one, with_two}
use Rattle.text.specs.declared.Line.{Line}
use Rattle.text.specs.declared.Line.TheVariants.{Bad}
use Rattle.text.specs.declared.Digits.{Digits}
use Rattle.text.specs.declared.Digits.TheVariants.{NoDigit, Value, NotNumber}
use Rattle.text.specs.declared.Parse.{Parse}
use Rattle.text.specs.declared.Parse.TheVariants.{Start, Letter, First, Second, NotLine}

-- the number n followed by a digit, if it is not past 64 bits
unfoldable pub with_digit : (n digit : ℕ) → Digits
with_digit n digit = cond (ltb (10 * n + digit) (2 ^ 64)) (Value (10 * n + digit)) NotNumber

-- one more digit; the first one is a number by itself
unfoldable pub add_digit : Digits → (digit : ℕ) → Digits
add_digit NoDigit digit = Value digit
add_digit (Value n) digit = with_digit n digit
add_digit NotNumber digit = NotNumber

-- one more byte of a number
unfoldable pub add_byte : Digits → (byte : ℕ) → Digits
add_byte digits byte = cond (is_digit byte) (add_digit digits (byte - 48)) NotNumber

-- a space after the first number
unfoldable pub next_number : (letter : ℕ) → Digits → Parse
next_number letter NoDigit = NotLine
next_number letter (Value first) = Second letter first NoDigit
next_number letter NotNumber = NotLine

-- a space comes next
unfoldable pub after_space : Parse → Parse
after_space Start = NotLine
after_space (Letter letter) = First letter NoDigit
after_space (First letter digits) = next_number letter digits
after_space (Second letter first digits) = NotLine
after_space NotLine = NotLine

-- a byte comes next that is no space
unfoldable pub after_other : Parse → (byte : ℕ) → Parse
after_other Start byte = Letter byte
after_other (Letter letter) byte = NotLine
after_other (First letter digits) byte = First letter (add_byte digits byte)
after_other (Second letter first digits) byte = Second letter first (add_byte digits byte)
after_other NotLine byte = NotLine

-- one more byte of the line
unfoldable pub fed : Parse → (byte : ℕ) → Parse
fed parse byte = cond (eqb byte 32) (after_space parse) (after_other parse byte)

-- the line ends after its first number
unfoldable pub end_one : (letter : ℕ) → Digits → Line
end_one letter NoDigit = Bad
end_one letter (Value n) = with_one letter n
end_one letter NotNumber = Bad

-- the line ends after its second number
unfoldable pub end_two : (letter first : ℕ) → Digits → Line
end_two letter first NoDigit = Bad
end_two letter first (Value second) = with_two letter first second
end_two letter first NotNumber = Bad

-- the line ends here
unfoldable pub line_read : Parse → Line
line_read Start = Bad
line_read (Letter letter) = Bad
line_read (First letter digits) = end_one letter digits
line_read (Second letter first digits) = end_two letter first digits
line_read NotLine = Bad
