-- Answers of `recovery_judge_code::comparing::records_said`.
use mathlib.Core.Bool.{Bool, true, false, cond}
use mathlib.Core.Path.{◌≡◌, refl}
use Prim.Native.Nat.{ℕ, max}
use native.Mathlib.Omega.{arith}
use lib.Dec.{eqb}
use borrow.Author.Rules.{rules}
use borrow.Author.Tests.{eqb-true, eqb-false}
use Rattle.table.specs.Complete.{basket_size}
use Rattle.recovery_judge_code.proofs.comparing.records_said.Goals as goal

said_by_max : (number : ℕ) → max number 1 ≡ basket_size number
unfolding basket_size
said_by_max number = go (eqb number 0) refl
  where
    go : (b : Bool) → eqb number 0 ≡ b → max number 1 ≡ cond b 1 number
    go true e = let one : max number 1 ≡ 1 = omega (arith, eqb-true number 0 e) in one
    go false e = let same : max number 1 ≡ number = omega (arith, eqb-false number 0 e) in same

pub returns : goal.returns
returns c =
    let e : c.max.result ≡ max c.args.number 1 = search rules in
    record { result = (rw e (said_by_max c.args.number), omega (arith, e), omega (arith, e, c.requires)) }
