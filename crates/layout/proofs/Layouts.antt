-- Both layouts are layouts: nothing is left to ask of one that is told by a truth value. Assumes nothing.
use mathlib.Core.Path.{◌≡◌, sym}
use mathlib.Core.Bool.{Bool, true, false}
use native.Mathlib.Omega.{arith}
use Rattle.prelude.proofs.Choice.{pick_true, pick_false}
use Rattle.layout.specs.Record.{Layout}
use Rattle.layout.specs.Layouts.{layout_number}

pub layout_numbered : (wide : Bool) → Layout (layout_number wide)
layout_numbered true = record { low = omega arith; high = omega arith }
layout_numbered false = record { low = omega arith; high = omega arith }
