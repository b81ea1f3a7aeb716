-- Answers of `layout_code::value::copy_value`.
use mathlib.Core.Path.{refl}
use native.Mathlib.Omega.{arith}
use Rattle.layout.specs.Record.{value_front}
use Rattle.layout.proofs.Copies.{copied_none, copied_next, copied_all}
use Rattle.layout_code.proofs.value.copy_value.Goals as goal

pub loop-init : goal.loop-init
loop-init c =
    (refl, copied_none _ _ _)

pub copy_step-i-requires : goal.copy_step-i-requires
copy_step-i-requires c =
    (c.requires.0, omega (arith, c.loop.invariant.0), c.requires.1, omega (arith, c.requires.2))

pub loop-preserved : goal.loop-preserved
loop-preserved c = (
  omega (arith, c.copy_step-i.ensures.0, c.loop.invariant.0),
  copied_next _ _ _ _ _ _ _ c.requires.2 (omega (arith, c.loop.invariant.0)) c.loop.invariant.1 _ _
      c.copy_step-i.ensures.0 c.copy_step-i.ensures.1,
)

pub returns : goal.returns
unfolding value_front
returns c =
    record { result = (copied_all _ _ _ _ _ (omega (arith, c.loop.invariant.0)) c.loop.invariant.1) }
