-- The numbers of a line that was read are below 2^64. Assumes nothing.
use mathlib.Core.Path.{◌≡◌, refl}
use mathlib.Core.Bool.{Bool, true, false, cond, true≢false}
use mathlib.Core.List.{List, [], ◌∷◌}
use Prim.Native.Nat.{ℕ, ◌^◌, ◌<◌}
use lib.Dec.{eqb}
use borrow.Author.Tests.{ltb-true}
use Rattle.text.specs.Forms.{are_digits, number_of, is_number, first_field, later_fields, with_one, with_two, with_numbers, with_fields, line_of}
use Rattle.text.specs.declared.Line.{Line}
use Rattle.text.specs.declared.Line.TheVariants.{Bad}
use Rattle.session.specs.Rule.{SizedLine, sized_new, sized_write, sized_remove, sized_get, sized_cut, sized_bad}

second_true : (t u : Bool) → cond t u false ≡ true → u ≡ true
second_true true u e = e
second_true false u e = absurd (true≢false (let z : true ≡ false = cc in z))

number_below : (field : List ℕ) → is_number field ≡ true → number_of field < 2 ^ 64
unfolding is_number
number_below [] e = absurd (true≢false (let z : true ≡ false = cc in z))
number_below (byte ∷ bytes) e = ltb-true (number_of (byte ∷ bytes)) (2 ^ 64) (second_true (are_digits (byte ∷ bytes)) _ e)

one_of : (t : Bool) (x y : Line) → SizedLine x → SizedLine y → SizedLine (cond t x y)
one_of true x y p q = p
one_of false x y p q = q

sized_one : (letter n : ℕ) → n < 2 ^ 64 → SizedLine (with_one letter n)
unfolding with_one
sized_one letter n h =
    one_of (eqb letter 110) _ _ sized_new (one_of (eqb letter 114) _ _ (sized_remove h) (one_of (eqb letter 103) _ _ (sized_get h) sized_bad))

sized_two : (letter a b : ℕ) → a < 2 ^ 64 → b < 2 ^ 64 → SizedLine (with_two letter a b)
unfolding with_two
sized_two letter a b p q = one_of (eqb letter 112) _ _ (sized_write p q) (one_of (eqb letter 99) _ _ sized_cut sized_bad)

where_number : (t : Bool) (line : Line) → (t ≡ true → SizedLine line) → SizedLine (cond t line Bad)
where_number true line h = h refl
where_number false line h = sized_bad

sized_numbers : (letter : ℕ) (fields : List (List ℕ)) → SizedLine (with_numbers letter fields)
unfolding with_numbers
sized_numbers letter [] = sized_bad
sized_numbers letter (a ∷ []) = where_number (is_number a) _ (λ p. sized_one letter (number_of a) (number_below a p))
sized_numbers letter (a ∷ b ∷ []) =
    where_number (is_number a) _
    (λ p. where_number (is_number b) _ (λ q. sized_two letter (number_of a) (number_of b) (number_below a p) (number_below b q)))
sized_numbers letter (a ∷ b ∷ field ∷ fields) = sized_bad

sized_fields : (first : List ℕ) (fields : List (List ℕ)) → SizedLine (with_fields first fields)
unfolding with_fields
sized_fields [] fields = sized_bad
sized_fields (letter ∷ []) fields = sized_numbers letter fields
sized_fields (letter ∷ byte ∷ bytes) fields = sized_bad

pub sized_line : (bytes : List ℕ) → SizedLine (line_of bytes)
unfolding line_of
sized_line bytes = sized_fields (first_field bytes) (later_fields bytes)
