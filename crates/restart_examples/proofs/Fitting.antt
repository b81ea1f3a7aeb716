-- The moves of the histories fit. Assumes nothing.
use mathlib.Core.Path.{◌≡◌, ap}
use mathlib.Core.Bool.{Bool, not}
use Prim.Native.Nat.{ℕ, zero, suc, ◌+◌, ◌%◌}
use native.Mathlib.Omega.{arith}
use lib.ListN.{length, replicate, length-replicate}
use borrow.Author.Tests.{eq-eqb}
use Rattle.prelude.specs.Refusal.{refuse_if}
use Rattle.prelude.proofs.Fills.{zeros}
use Rattle.words.specs.Word.{AreBytes}
use Rattle.layout.specs.Header.{index_fault}
use Rattle.plainmap.specs.Claims.{write_typed}
use Rattle.restart_examples.specs.Wrong.{eight_bytes, Fitting}

eight-bytes : (n : ℕ) → AreBytes (eight_bytes n)
unfolding eight_bytes
eight-bytes n zero = omega arith
eight-bytes n (suc k) = omega (arith, zeros 7 k)

one-head : (n : ℕ) → index_fault n 1 (length {A = ℕ} (replicate (suc n) 9)) ≡ 0
unfolding index_fault refuse_if
one-head n =
    ap (λ (b : Bool). refuse_if (not b) 4 0) (eq-eqb (length {A = ℕ} (replicate (suc n) 9)) (n + 1) (omega (arith, length-replicate {A = ℕ} (suc n) 9)))

pub fitting : Fitting
fitting = record { index = one-head; typed = λ mode key n. write_typed {key = key % 256} (omega arith) (eight-bytes n) }
