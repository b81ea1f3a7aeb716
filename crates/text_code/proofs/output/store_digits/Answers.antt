-- Answers of `text_code::output::store_digits`.
use native.Mathlib.Omega.{arith}
use mathlib.Core.Path.{◌≡◌}
use Prim.Native.Nat.{◌%◌}
use Rattle.text.proofs.Storing.{filling_begins, filling_more, filling_last}
use Rattle.text_code.proofs.output.store_digits.Goals as goal

pub loop-i-init : goal.loop-i-init
loop-i-init c =
    filling_begins _ _ (omega arith) c.requires

pub returns-then-rest-lt10 : goal.returns-then-rest-lt10
returns-then-rest-lt10 c =
    let last : c.loop-i.rest % 10 ≡ c.loop-i.rest = omega arith in
    (omega (arith, c.loop-i.invariant.high, c.loop-i.invariant.low), rw last (filling_last _ _ _ _ c.loop-i.invariant c.if-rest-lt10.true))

pub loop-i-preserved : goal.loop-i-preserved
loop-i-preserved c =
    filling_more _ _ _ _ c.loop-i.invariant c.if-rest-lt10.false
