-- The slots that a length gives. Assumes nothing.
use mathlib.Core.Path.{◌≡◌, sym, ap, ◌∙◌}
use mathlib.Core.Bool.{not}
use mathlib.Core.Logic.{by_cases}
use Prim.Native.Nat.{ℕ, ◌+◌, ◌-◌, ◌*◌, ◌/◌, ◌%◌, ◌^◌, ◌≤◌, ◌<◌}
use native.Mathlib.Nat.{mul-le-mul_right}
use native.Mathlib.Decide.{dec_lt, ℕ_discrete}
use native.Mathlib.Omega.{arith}
use borrow.Author.Tests.{lt-ltb, le-ltb, eq-eqb}
use Rattle.prelude.proofs.Tests.{tests}
use Rattle.prelude.specs.Refusal.{refuse_if}
use Rattle.layout.specs.Size.{slots_of}
use Rattle.prelude.proofs.Refusals.{refuse_if-true, refuse_if-false}

module _ (len turned : ℕ) (e : turned ≡ len / 128 + len % 128 * 2 ^ 57) where
  pub turned_low : turned < 3 → 0 ≡ slots_of len
  unfolding slots_of
  turned_low h = sym (refuse_if-true _ _ _ (lt-ltb len 384 (omega arith)))

  pub turned_high : 65536 < turned → 0 ≡ slots_of len
  unfolding slots_of refuse_if
  turned_high h =
      by_cases (dec_lt len 384) (λ p. search tests)
      (λ p.
      let p' : 384 ≤ len = omega arith in
      by_cases (dec_lt 8388608 len) (λ q. search tests)
      (λ q.
      let q' : len ≤ 8388608 = omega arith in
      let r : len % 128 ≡ 0 → ⊥ = (λ z. omega arith) in
      search tests))

  pub turned_right : 3 ≤ turned → turned ≤ 65536 → turned - 1 ≡ slots_of len
  unfolding slots_of
  turned_right low high =
      sym
      (refuse_if-false _ _ _ (le-ltb len 384 (omega arith)) ∙ refuse_if-false _ _ _ (le-ltb 8388608 len (omega arith))
      ∙ refuse_if-false _ _ _ (ap not (eq-eqb (len % 128) 0 (omega arith))) ∙ omega arith)

-- what a length that has slots is
pub record Long (len : ℕ) : Type 0 where
  pub size : len ≡ 128 * (slots_of len + 1)
  pub low : 2 ≤ slots_of len
  pub high : slots_of len ≤ 65535

pub long : (len : ℕ) → (slots_of len ≡ 0 → ⊥) → Long len
unfolding slots_of refuse_if
long len ne =
    by_cases (dec_lt len 384) (λ h. absurd (ne (search tests)))
    (λ h.
    let h' : 384 ≤ len = omega arith in
    by_cases (dec_lt 8388608 len) (λ k. absurd (ne (search tests)))
    (λ k.
    let k' : len ≤ 8388608 = omega arith in
    by_cases (dec_lt 0 (len % 128))
    (λ m. let z : len % 128 ≡ 0 → ⊥ = (λ q. omega arith) in absurd (ne (search tests)))
    (λ m.
    let z : len % 128 ≡ 0 = omega arith in
    let e : slots_of len ≡ len / 128 - 1 = search tests in
    record { size = omega arith; low = omega arith; high = omega arith })))

pub slots_high : (len : ℕ) → slots_of len ≤ 65535
slots_high len = by_cases (ℕ_discrete (slots_of len) 0) (λ e. omega arith) (λ ne. (long len ne).high)

pub sized : (n : ℕ) → 2 ≤ n → n ≤ 65535 → slots_of (128 * (n + 1)) ≡ n
unfolding slots_of
sized n low high =
    refuse_if-false _ _ _ (le-ltb (128 * (n + 1)) 384 (omega arith)) ∙ refuse_if-false _ _ _ (le-ltb 8388608 (128 * (n + 1)) (omega arith))
    ∙ refuse_if-false _ _ _ (ap not (eq-eqb (128 * (n + 1) % 128) 0 (omega arith))) ∙ omega arith
