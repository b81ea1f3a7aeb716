-- A line that is read byte by byte is the line of its bytes. Assumes nothing.
use mathlib.Core.Path.{◌≡◌, refl, sym, ap, ◌∙◌}
use mathlib.Core.Bool.{Bool, true, false, cond, true≢false}
use mathlib.Core.List.{List, [], ◌∷◌}
use Prim.Native.Nat.{ℕ, ◌+◌, ◌-◌, ◌*◌, ◌^◌, ◌≤◌, ◌<◌}
use native.Mathlib.Omega.{arith}
use lib.Dec.{eqb, ltb}
use borrow.Author.Tests.{lt-ltb, le-ltb, ltb-true, ltb-false}
use Rattle.prelude.proofs.Choice.{pick_true, pick_false}
use Rattle.text.specs.Forms.{is_digit, are_digits, value_from, number_of, is_number, first_field, later_fields, with_one, with_two, with_numbers, with_fields}
use Rattle.text.specs.Forms.{line_of}
use Rattle.text.specs.Parsing.{with_digit, add_digit, add_byte, next_number, after_space, after_other, fed, end_one, end_two, line_read}
use Rattle.text.proofs.defs.Parsing.{fed_all}
use Rattle.text.specs.declared.Line.{Line}
use Rattle.text.specs.declared.Line.TheVariants.{Bad}
use Rattle.text.specs.declared.Digits.{Digits}
use Rattle.text.specs.declared.Digits.TheVariants.{NoDigit, Value, NotNumber}
use Rattle.text.specs.declared.Parse.{Parse}
use Rattle.text.specs.declared.Parse.TheVariants.{Start, Letter, First, Second, NotLine}

-- ---- a byte that is a digit

pub is-digit : (byte : ℕ) → 48 ≤ byte → byte ≤ 57 → is_digit byte ≡ true
unfolding is_digit
is-digit byte low high = pick_false _ _ _ (le-ltb byte 48 low) ∙ pick_false _ _ _ (le-ltb 57 byte high)

-- ---- a number

-- the part of a number, and further bytes of it
abbrev add_bytes : Digits → List ℕ → Digits
add_bytes digits [] = digits
add_bytes digits (byte ∷ bytes) = add_bytes (add_byte digits byte) bytes

-- what a number says, if it is one
abbrev on_number : (ℕ → Line) → Digits → Line
on_number k NoDigit = Bad
on_number k (Value n) = k n
on_number k NotNumber = Bad

never_number : (bytes : List ℕ) → add_bytes NotNumber bytes ≡ NotNumber
unfolding add_byte add_digit
never_number [] = refl
never_number (byte ∷ bytes) = go (is_digit byte) (never_number bytes)
  where
    go : (t : Bool) → add_bytes NotNumber bytes ≡ NotNumber → add_bytes (cond t NotNumber NotNumber) bytes ≡ NotNumber
    go true h = h
    go false h = h

-- digits only make a number larger
grows : (bytes : List ℕ) (n : ℕ) → n ≤ value_from n bytes
unfolding value_from
grows [] n = omega arith
grows (byte ∷ bytes) n = let h = grows bytes (10 * n + (byte - 48)) in omega arith

-- the digits of m and these bytes are a number
abbrev whole : (m : ℕ) → List ℕ → Bool
whole m bytes = cond (are_digits bytes) (ltb (value_from m bytes) (2 ^ 64)) false

too_large : (k : ℕ → Line) (bytes : List ℕ) (m : ℕ) → 2 ^ 64 ≤ m → cond (whole m bytes) (k (value_from m bytes)) Bad ≡ Bad
too_large k bytes m h = pick_false _ _ _ (go (are_digits bytes))
  where
    go : (t : Bool) → cond t (ltb (value_from m bytes) (2 ^ 64)) false ≡ false
    go true = le-ltb (value_from m bytes) (2 ^ 64) (omega (arith, grows bytes m))
    go false = refl

-- one more byte, which makes it m if it is a digit
more : (k : ℕ → Line) (bytes : List ℕ) (m : ℕ) (t : Bool)
    → (m < 2 ^ 64 → on_number k (add_bytes (Value m) bytes) ≡ cond (whole m bytes) (k (value_from m bytes)) Bad)
    → on_number k (add_bytes (cond t (cond (ltb m (2 ^ 64)) (Value m) NotNumber) NotNumber) bytes) ≡
    cond (cond (cond t (are_digits bytes) false) (ltb (value_from m bytes) (2 ^ 64)) false) (k (value_from m bytes)) Bad
more k bytes m false h = ap (on_number k) (never_number bytes)
more k bytes m true h = go (ltb m (2 ^ 64)) refl
  where
    go : (u : Bool) → ltb m (2 ^ 64) ≡ u
        → on_number k (add_bytes (cond u (Value m) NotNumber) bytes) ≡ cond (whole m bytes) (k (value_from m bytes)) Bad
    go true e = h (ltb-true m (2 ^ 64) e)
    go false e = ap (on_number k) (never_number bytes) ∙ sym (too_large k bytes m (ltb-false m (2 ^ 64) e))

number_on : (k : ℕ → Line) (bytes : List ℕ) (n : ℕ) → n < 2 ^ 64
    → on_number k (add_bytes (Value n) bytes) ≡ cond (whole n bytes) (k (value_from n bytes)) Bad
unfolding are_digits value_from add_byte add_digit with_digit
number_on k [] n h = sym (pick_true _ _ _ (lt-ltb n (2 ^ 64) h))
number_on k (byte ∷ bytes) n h =
    more k bytes (10 * n + (byte - 48)) (is_digit byte) (λ lt. number_on k bytes (10 * n + (byte - 48)) lt)

-- a first byte
first_byte : (k : ℕ → Line) (bytes : List ℕ) (m : ℕ) (t : Bool) → (t ≡ true → m < 2 ^ 64)
    → on_number k (add_bytes (cond t (Value m) NotNumber) bytes) ≡
    cond (cond (cond t (are_digits bytes) false) (ltb (value_from m bytes) (2 ^ 64)) false) (k (value_from m bytes)) Bad
first_byte k bytes m false h = ap (on_number k) (never_number bytes)
first_byte k bytes m true h = number_on k bytes m (h refl)

small_digit : (byte : ℕ) → is_digit byte ≡ true → byte ≤ 57
unfolding is_digit
small_digit byte e = go (ltb byte 48) refl (ltb 57 byte) refl e
  where
    go : (s : Bool) → ltb byte 48 ≡ s → (t : Bool) → ltb 57 byte ≡ t → cond s false (cond t false true) ≡ true → byte ≤ 57
    go true p t q r = omega (arith, ltb-true byte 48 p)
    go false p true q r = absurd (true≢false (sym r))
    go false p false q r = ltb-false 57 byte q

-- a field that is read byte by byte is the number that it says
number_read : (k : ℕ → Line) (field : List ℕ) → on_number k (add_bytes NoDigit field) ≡ cond (is_number field) (k (number_of field)) Bad
unfolding is_number number_of are_digits value_from add_byte add_digit
number_read k [] = refl
number_read k (byte ∷ bytes) =
    first_byte k bytes (byte - 48) (is_digit byte) (λ e. omega (arith, small_digit byte e))
    ∙ ap
    (λ (m : ℕ).
    cond (cond (cond (is_digit byte) (are_digits bytes) false) (ltb (value_from m bytes) (2 ^ 64)) false) (k (value_from m bytes)) Bad)
    same
  where
    same : byte - 48 ≡ 10 * 0 + (byte - 48)
    same = omega arith

-- ---- a line

-- the first number so far, and the fields after it
abbrev after_second : (letter first : ℕ) → Digits → List (List ℕ) → Line
after_second letter first digits [] = end_two letter first digits
after_second letter first digits (field ∷ fields) = Bad

abbrev after_first : (letter : ℕ) → Digits → List (List ℕ) → Line
after_first letter digits [] = end_one letter digits
after_first letter digits (field ∷ fields) = on_number (λ first. after_second letter first (add_bytes NoDigit field) fields) digits

-- what the state and further bytes say
abbrev says : Parse → List ℕ → Line
says Start bytes = line_of bytes
says (Letter letter) bytes = with_fields (letter ∷ first_field bytes) (later_fields bytes)
says (First letter digits) bytes = after_first letter (add_bytes digits (first_field bytes)) (later_fields bytes)
says (Second letter first digits) bytes = after_second letter first (add_bytes digits (first_field bytes)) (later_fields bytes)
says NotLine bytes = Bad

never : (digits : Digits) → on_number (λ first. Bad) digits ≡ Bad
never NoDigit = refl
never (Value n) = refl
never NotNumber = refl

end-one : (letter : ℕ) (digits : Digits) → end_one letter digits ≡ on_number (with_one letter) digits
unfolding end_one
end-one letter NoDigit = refl
end-one letter (Value n) = refl
end-one letter NotNumber = refl

end-two : (letter first : ℕ) (digits : Digits) → end_two letter first digits ≡ on_number (with_two letter first) digits
unfolding end_two
end-two letter first NoDigit = refl
end-two letter first (Value n) = refl
end-two letter first NotNumber = refl

numbers : (letter : ℕ) (field : List ℕ) (fields : List (List ℕ))
    → after_first letter (add_bytes NoDigit field) fields ≡ with_numbers letter (field ∷ fields)
unfolding with_numbers
numbers letter field [] = end-one letter _ ∙ number_read (with_one letter) field
numbers letter field (other ∷ []) =
    number_read (λ first. end_two letter first (add_bytes NoDigit other)) field
    ∙ ap (λ (x : Line). cond (is_number field) x Bad)
    (end-two letter (number_of field) _ ∙ number_read (with_two letter (number_of field)) other)
numbers letter field (other ∷ more ∷ fields) = never (add_bytes NoDigit field)

-- a space after the first number
second : (letter : ℕ) (digits : Digits) (bytes : List ℕ)
    → says (next_number letter digits) bytes ≡ after_first letter digits (first_field bytes ∷ later_fields bytes)
unfolding next_number
second letter NoDigit bytes = refl
second letter (Value n) bytes = refl
second letter NotNumber bytes = refl

-- one byte
moves : (parse : Parse) (byte : ℕ) (bytes : List ℕ) → says (fed parse byte) bytes ≡ says parse (byte ∷ bytes)
unfolding fed after_space after_other first_field later_fields line_of with_fields
moves Start byte bytes = go (eqb byte 32)
  where
    go : (t : Bool)
        → says (cond t NotLine (Letter byte)) bytes ≡
        with_fields (cond t [] (byte ∷ first_field bytes)) (cond t (first_field bytes ∷ later_fields bytes) (later_fields bytes))
    go true = refl
    go false = refl
moves (Letter letter) byte bytes = go (eqb byte 32)
  where
    go : (t : Bool)
        → says (cond t (First letter NoDigit) NotLine) bytes ≡
        with_fields (letter ∷ cond t [] (byte ∷ first_field bytes)) (cond t (first_field bytes ∷ later_fields bytes) (later_fields bytes))
    go true = numbers letter (first_field bytes) (later_fields bytes)
    go false = refl
moves (First letter digits) byte bytes = go (eqb byte 32)
  where
    go : (t : Bool)
        → says (cond t (next_number letter digits) (First letter (add_byte digits byte))) bytes ≡
        after_first letter (add_bytes digits (cond t [] (byte ∷ first_field bytes)))
        (cond t (first_field bytes ∷ later_fields bytes) (later_fields bytes))
    go true = second letter digits bytes
    go false = refl
moves (Second letter first digits) byte bytes = go (eqb byte 32)
  where
    go : (t : Bool)
        → says (cond t NotLine (Second letter first (add_byte digits byte))) bytes ≡
        after_second letter first (add_bytes digits (cond t [] (byte ∷ first_field bytes)))
        (cond t (first_field bytes ∷ later_fields bytes) (later_fields bytes))
    go true = refl
    go false = refl
moves NotLine byte bytes = go (eqb byte 32)
  where
    go : (t : Bool) → says (cond t NotLine NotLine) bytes ≡ Bad
    go true = refl
    go false = refl

at-end : (parse : Parse) → line_read parse ≡ says parse []
unfolding line_read line_of first_field later_fields with_fields with_numbers
at-end Start = refl
at-end (Letter letter) = refl
at-end (First letter digits) = refl
at-end (Second letter first digits) = refl
at-end NotLine = refl

all : (parse : Parse) (bytes : List ℕ) → line_read (fed_all parse bytes) ≡ says parse bytes
unfolding fed_all
all parse [] = at-end parse
all parse (byte ∷ bytes) = all (fed parse byte) bytes ∙ moves parse byte bytes

-- the line that is read byte by byte is the line of its bytes
pub parsed : (bytes : List ℕ) → line_read (fed_all Start bytes) ≡ line_of bytes
parsed bytes = all Start bytes
