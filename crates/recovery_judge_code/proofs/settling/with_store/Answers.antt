-- Answers of `recovery_judge_code::settling::with_store`.
use mathlib.Core.Path.{◌≡◌, refl}
use native.Mathlib.Omega.{arith}
use lib.ListN.{length}
use borrow.Author.Rules.{rules}
use Rattle.recovery.specs.inner.Judge.{with_store}
use Rattle.recovery.proofs.Settles.{with_store_past}
use Rattle.recovery_judge_code.proofs.settling.with_store.Goals as goal

-- `recovery_judge_code::settling::with_store` meets its contract. Assumes nothing.
pub returns-then-i-lt8 : goal.returns-then-i-lt8
unfolding with_store
returns-then-i-lt8 c =
    refl

pub returns-else-i-lt8 : goal.returns-else-i-lt8
returns-else-i-lt8 c =
    let at_size : length c.args.opened.at ≡ 8 = search rules in
    let value-size : length c.args.opened.value ≡ 8 = search rules in
    with_store_past _ _ (omega (arith, at_size, c.if-i-lt8.false)) (omega (arith, value-size, c.if-i-lt8.false))
