-- Invariants of `calls_basket_write_code::links::link_all`.
use Prim.Native.Nat.{◌-◌, ◌<◌}
use native.Mathlib.Omega.{arith}
use mathlib.Core.Path.{◌∙◌}
use Rattle.calls.specs.BasketItems.{item_at}
use Rattle.calls.proofs.BasketLinks.{Linking, linking_starts, linking_on, linking_ends}
use Rattle.calls_basket_write_code.proofs.links.link_all.Given as goal

-- `calls_basket_write_code::links::link_all` meets its contract. Assumes nothing.
abbrev pub invariant-loop-j : goal.invariant-loop-j
invariant-loop-j l =
    Linking l.n l.items l.count l.olds l.slots l.initial.heads l.initial.next l.initial.rest l.heads l.next l.rest l.j
