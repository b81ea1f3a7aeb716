-- Answers of `index_write_code::basket::slot_before`.
use mathlib.Core.Path.{◌≡◌}
use Prim.Native.Nat.{◌+◌, ◌-◌, ◌<◌}
use native.Mathlib.Omega.{arith}
use Rattle.index.proofs.BasketWrites.{seek_found, seek_ended, seek_above, seek_on, seek_over}
use Rattle.index_write_code.proofs.basket.slot_before.Goals as goal
use Rattle.index_write_code.proofs.basket.slot_before.Goals.{then-at-target-via-then-at-target, then-at-target-via-else-at-target+then-at-eq0}
use Rattle.index_write_code.proofs.basket.slot_before.Goals.{then-at-target-via-else-at-target+else-at-eq0+then-n-at}

pub returns-then-at-target : goal.returns-then-at-target
returns-then-at-target c =
    let left : 0 < c.args.n - c.loop.counter = omega arith in
    elim c.then-at-target.branch [
      | then-at-target-via-then-at-target w ↦ seek_found _ _ _ _ _ _ _ c.loop.invariant left w.if-at-target.true
      | then-at-target-via-else-at-target+then-at-eq0 w ↦
          seek_ended _ _ _ _ _ _ _ c.loop.invariant left w.if-at-target.false w.if-at-eq0.true
      | then-at-target-via-else-at-target+else-at-eq0+then-n-at w ↦
          seek_above _ _ _ _ _ _ _ c.loop.invariant left w.if-at-target.false w.if-at-eq0.false w.if-n-at.true
    ]

pub loop-preserved : goal.loop-preserved
loop-preserved c =
    let left : 0 < c.args.n - c.loop.counter = omega arith in
    let less : c.args.n - (c.loop.counter + 1) ≡ c.args.n - c.loop.counter - 1 = omega arith in
    rw less
    (seek_on _ _ _ _ _ _ _ c.loop.invariant left c.if-at-target.false c.if-at-eq0.false c.if-n-at.false (c.type_inv.next _).fits)

pub returns : goal.returns
returns c =
    seek_over _ _ _ _ _ _ _ c.loop.invariant (omega arith)
