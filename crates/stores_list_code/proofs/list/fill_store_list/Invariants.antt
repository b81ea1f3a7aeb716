-- Invariants and measures of `stores_list_code::list::fill_store_list`.
use Rattle.std.proofs.Common.{◌≡◌, ◌≤◌}
use Rattle.stores.specs.inner.List.{stores_put}
use Rattle.stores_list_code.proofs.list.fill_store_list.Given as goal

-- i stores are put
abbrev pub invariant-loop-i : goal.invariant-loop-i
invariant-loop-i l = (l.i ≤ l.count) × (l.list ≡ stores_put l.at l.words l.i l.fn.list)
