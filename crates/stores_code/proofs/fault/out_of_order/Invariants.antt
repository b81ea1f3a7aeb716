-- Invariants and measures of `stores_code::fault::out_of_order`.
use mathlib.Core.Path.{refl}
use mathlib.Core.Bool.{not}
use Prim.Native.Nat.{◌+◌, ◌-◌}
use native.Mathlib.Omega.{arith}
use lib.Dec.{eqb}
use lib.ListN.{get_or}
use borrow.Author.Rules.{rules}
use Rattle.prelude.proofs.Refusals.{apart, alike}
use Rattle.prelude.proofs.Any.{Going, any_start, any_hit, any_next, any_end}
use Rattle.stores_code.proofs.fault.out_of_order.Given as goal

-- `stores_code::fault::out_of_order` meets its contract. Assumes nothing.
abbrev pub invariant-loop-i : goal.invariant-loop-i
invariant-loop-i l = Going (λ j. not (eqb (get_or l.at (l.k + j) 0) (l.first + j))) 0 8 8 l.i

abbrev pub decreases-loop-i : goal.decreases-loop-i
decreases-loop-i l = 8 - l.i
