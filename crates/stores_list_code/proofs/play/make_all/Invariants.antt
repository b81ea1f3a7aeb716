-- Invariants and measures of `stores_list_code::play::make_all`.
use Rattle.std.proofs.Common.{length, take, ◌≡◌, ◌≤◌}
use Rattle.stores.specs.Store.{played}
use Rattle.stores_list_code.proofs.play.make_all.Given as goal

-- i stores are made
abbrev pub invariant-loop-store : goal.invariant-loop-store
invariant-loop-store l = (l.store-index ≤ length l.list) × (l.image ≡ played (take l.store-index l.list) l.fn.image)
