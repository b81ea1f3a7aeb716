-- Numbers by their bits: one with a single bit, and an or that is zero. Assumes nothing.
use mathlib.Core.Path.{◌≡◌, refl, sym, ap, ap₂, ◌∙◌}
use mathlib.Core.Bool.{Bool, true, false, not, cond}
use mathlib.Core.Logic.{by_cases}
use Prim.Native.Nat.{ℕ, suc, ◌+◌, ◌-◌, ◌*◌, ◌/◌, ◌%◌, ◌^◌, ◌<◌, min}
use native.Mathlib.Nat.{pow-suc}
use native.Mathlib.Decide.{dec_lt}
use native.Mathlib.Omega.{arith}
use lib.Arith.{bin_ind}
use lib.Bits.{bit_and, bit_or, and_step, and_self, and_mask, and_le_r, or_zero_l, or_add_and}
use lib.Dec.{eqb}
use borrow.Author.Tests.{eq-eqb, ne_eqb}
use Rattle.prelude.proofs.Choice.{pick_true, pick_false}

record PowerOfTwo (b : ℕ) : Type 0 where
  exponent : ℕ
  is : b ≡ 2 ^ exponent

-- a number that shares no bit with the one before it has a single bit
single_bit : (b : ℕ) → 0 < b → bit_and b (b - 1) ≡ 0 → PowerOfTwo b
single_bit = bin_ind (λ (b : ℕ). 0 < b → bit_and b (b - 1) ≡ 0 → PowerOfTwo b) (λ h e. absurd (omega arith)) step
  where
    step : (b : ℕ) → (0 < b / 2 → bit_and (b / 2) (b / 2 - 1) ≡ 0 → PowerOfTwo (b / 2)) → 0 < b → bit_and b (b - 1) ≡ 0 → PowerOfTwo b
    step b ih h e =
        by_cases (dec_lt 0 (b % 2))
        (λ odd.
        let half : (b - 1) / 2 ≡ b / 2 = omega arith in
        let none : b / 2 ≡ 0 = omega (arith, and_step b (b - 1), ap (bit_and (b / 2)) half ∙ and_self (b / 2)) in
        record { exponent = 0; is = omega arith })
        (λ even.
        let half : (b - 1) / 2 ≡ b / 2 - 1 = omega arith in
        let rest : bit_and (b / 2) (b / 2 - 1) ≡ 0 = omega (arith, and_step b (b - 1), ap (bit_and (b / 2)) half) in
        let p : PowerOfTwo (b / 2) = ih (omega arith) rest in
        record { exponent = suc p.exponent; is = omega (arith, p.is, pow-suc 2 p.exponent) })

-- so its mask gives the remainder
pub mask_remainder : (n b : ℕ) → 0 < b → bit_and b (b - 1) ≡ 0 → bit_and n (b - 1) ≡ n % b
mask_remainder n b h e =
    let p = single_bit b h e in
    ap (λ (x : ℕ). bit_and n (x - 1)) p.is ∙ and_mask n p.exponent ∙ ap (λ (x : ℕ). n % x) (sym p.is)

-- one of two numbers is not zero
pub or_nonzero : (a b : ℕ) → not (eqb (bit_or a b) 0) ≡ cond (not (eqb a 0)) true (not (eqb b 0))
or_nonzero a b =
    by_cases (dec_lt 0 a)
    (λ h.
    ap not (ne_eqb (bit_or a b) 0 (λ e. omega (arith, or_add_and a b, and_le_r a b)))
    ∙ sym (pick_true (not (eqb a 0)) _ _ (ap not (ne_eqb a 0 (λ e. omega arith)))))
    (λ h.
    let none : a ≡ 0 = omega arith in
    ap (λ (x : ℕ). not (eqb x 0)) (ap (λ (x : ℕ). bit_or x b) none ∙ or_zero_l b)
    ∙ sym (pick_false (not (eqb a 0)) _ _ (ap not (eq-eqb a 0 none))))
