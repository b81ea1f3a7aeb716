-- A number that is printed reads back as itself, and has no zero in front. Assumes nothing.
use mathlib.Core.Path.{◌≡◌, refl, sym, ap, ◌∙◌, subst}
use mathlib.Core.Bool.{Bool, true, false, cond}
use mathlib.Core.List.{List, [], ◌∷◌}
use Prim.Native.Nat.{ℕ, zero, suc, ◌+◌, ◌-◌, ◌*◌, ◌/◌, ◌%◌, ◌^◌, ◌≤◌, ◌<◌}
use native.Mathlib.Nat.{pow-suc}
use native.Mathlib.Omega.{arith}
use lib.Dec.{ltb}
use lib.ListN.{get_or}
use borrow.Author.Tests.{lt-ltb, ltb-true, ltb-false}
use Rattle.prelude.proofs.Choice.{pick_true}
use Rattle.text.specs.Forms.{are_digits, value_from, number_of, is_number}
use Rattle.text.specs.Output.{digits_onto, decimal}
use Rattle.text.proofs.Parsed.{is-digit}

-- the bytes l are the digits of n and then the bytes rest
record Shown (n : ℕ) (rest l : List ℕ) : Type 0 where
  value : value_from 0 l ≡ value_from n rest
  digits : are_digits l ≡ are_digits rest
  first : get_or l 0 0 ≡ 48 → n ≡ 0
  some : get_or l 0 0 ≡ 0 → ⊥

one_digit : (n : ℕ) (rest : List ℕ) → n < 10 → Shown n rest ((48 + n) ∷ rest)
unfolding value_from are_digits
one_digit n rest h =
    record {
      value = ap (λ (m : ℕ). value_from m rest) same;
      digits = pick_true _ _ _ (is-digit (48 + n) (omega arith) (omega arith));
      first = λ (e : 48 + n ≡ 48). omega arith;
      some = λ (e : 48 + n ≡ 0). omega arith;
    }
  where
    same : 10 * 0 + (48 + n - 48) ≡ n
    same = omega arith

more_digits : (n : ℕ) (rest l : List ℕ) → 10 ≤ n → Shown (n / 10) ((48 + n % 10) ∷ rest) l → Shown n rest l
unfolding value_from are_digits
more_digits n rest l h s =
    record {
      value = s.value ∙ ap (λ (m : ℕ). value_from m rest) same;
      digits = s.digits ∙ pick_true _ _ _ (is-digit (48 + n % 10) (omega arith) (omega arith));
      first = λ e. let z : n / 10 ≡ 0 = s.first e in omega arith;
      some = s.some;
    }
  where
    same : 10 * (n / 10) + (48 + n % 10 - 48) ≡ n
    same = omega arith

shown : (places n : ℕ) (rest : List ℕ) → n < 10 ^ suc places → Shown n rest (digits_onto (suc places) n rest)
unfolding digits_onto
shown zero n rest h =
    subst (Shown n rest) (sym (pick_true (ltb n 10) _ _ (lt-ltb n 10 (omega arith)))) (one_digit n rest (omega arith))
shown (suc places) n rest h = go (ltb n 10) refl (λ lt. shown places (n / 10) ((48 + n % 10) ∷ rest) lt)
  where
    go : (t : Bool) → ltb n 10 ≡ t
        → (n / 10 < 10 ^ suc places → Shown (n / 10) ((48 + n % 10) ∷ rest) (digits_onto (suc places) (n / 10) ((48 + n % 10) ∷ rest)))
        → Shown n rest (cond t ((48 + n) ∷ rest) (digits_onto (suc places) (n / 10) ((48 + n % 10) ∷ rest)))
    go true e s = one_digit n rest (ltb-true n 10 e)
    go false e s =
        more_digits n rest _ (ltb-false n 10 e) (s (let p = pow-suc 10 (suc places) in omega arith))

module _ (n : ℕ) (h : n < 2 ^ 64) where
  whole_number : Shown n [] (decimal n)
  unfolding decimal
  whole_number = shown 19 n [] (omega arith)

  pub decimal_value : number_of (decimal n) ≡ n
  unfolding number_of value_from
  decimal_value = whole_number.value

  -- no zero stands in front of another digit
  pub decimal_first : get_or (decimal n) 0 0 ≡ 48 → n ≡ 0
  decimal_first = whole_number.first

  is-number : (l : List ℕ) → are_digits l ≡ true → number_of l ≡ n → (get_or l 0 0 ≡ 0 → ⊥) → is_number l ≡ true
  unfolding is_number
  is-number [] d v s = absurd (s refl)
  is-number (byte ∷ bytes) d v s =
      pick_true _ _ _ d ∙ lt-ltb (number_of (byte ∷ bytes)) (2 ^ 64) (omega arith)

  pub decimal_number : is_number (decimal n) ≡ true
  unfolding are_digits
  decimal_number = is-number (decimal n) whole_number.digits decimal_value whole_number.some
