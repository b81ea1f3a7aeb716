-- Invariants and measures of `exports_basket_code::basket::unknown_kind`.
use Prim.Native.Nat.{◌-◌}
use mathlib.Core.Path.{ap}
use mathlib.Core.Bool.{not}
use native.Mathlib.Omega.{arith}
use lib.ListN.{get_or}
use borrow.Author.Rules.{rules}
use Rattle.prelude.proofs.Any.{Going, any_start, any_hit, any_next, any_end}
use Rattle.exports.specs.Basket.{is_kind, unknown_kind}
use Rattle.exports_basket_code.proofs.basket.unknown_kind.Given as goal

abbrev pub invariant-loop-i : goal.invariant-loop-i
invariant-loop-i l = Going (λ j. not (is_kind (get_or l.kinds j 0))) 0 l.count l.count l.i

abbrev pub decreases-loop-i : goal.decreases-loop-i
decreases-loop-i l = l.count - l.i
