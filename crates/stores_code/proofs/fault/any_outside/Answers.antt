-- Answers of `stores_code::fault::any_outside`.
use mathlib.Core.Path.{refl}
use Prim.Native.Nat.{◌+◌, ◌-◌, ◌*◌}
use native.Mathlib.Omega.{arith}
use lib.Dec.{ltb}
use lib.ListN.{length, get_or}
use borrow.Author.Rules.{rules}
use borrow.Author.Tests.{lt-ltb, le-ltb}
use Rattle.prelude.proofs.Any.{Going, any_start, any_hit, any_next, any_end}
use Rattle.stores_code.proofs.fault.any_outside.Goals as goal

pub loop-i-init : goal.loop-i-init
loop-i-init c =
    any_start (omega arith)

pub overflow_cast-w : goal.overflow_cast-w
overflow_cast-w c =
    omega (arith, c.shared_slice_known-1.given c.loop-i.i)

pub overflow_mul-w : goal.overflow_mul-w
overflow_mul-w c =
    omega (arith, c.shared_slice_known-1.given c.loop-i.i)

pub overflow_add-w : goal.overflow_add-w
overflow_add-w c =
    omega (arith, c.shared_slice_known-1.given c.loop-i.i)

pub returns-then-len-w : goal.returns-then-len-w
returns-then-len-w c =
    any_hit c.loop-i.invariant (search rules) refl (search lt-ltb)

pub loop-i-preserved : goal.loop-i-preserved
loop-i-preserved c =
    any_next c.loop-i.invariant (search rules) refl (search le-ltb)

pub returns : goal.returns
returns c =
    any_end c.loop-i.invariant c.loop-i-test.false
