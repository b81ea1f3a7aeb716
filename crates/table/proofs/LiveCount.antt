-- The number of live slots. Assumes nothing.
use mathlib.Core.Path.{◌≡◌}
use mathlib.Core.Bool.{false}
use Prim.Native.Nat.{ℕ, ◌≤◌, ◌<◌}
use native.Mathlib.Omega.{arith}
use borrow.Author.Tests.{eqb-false, ne_eqb}
use Rattle.layout.specs.Content.{Table}
use Rattle.table.specs.Table.{live, live_count, all_live}
use Rattle.prelude.proofs.Count.{count_gap, Gap, count_most}

-- at most all slots are live
pub live_most : (f : Table) (n : ℕ) → live_count f n ≤ n
unfolding live_count
live_most f n = count_most (live f n) n

-- where recovery's test finds a slot that is not live there is room
pub all_room : (f : Table) (n : ℕ) → all_live f n ≡ false → live_count f n < n
unfolding all_live
all_room f n e = omega (arith, live_most f n, eqb-false (live_count f n) n e)

-- and where there is room it finds one
pub room_all : (f : Table) (n : ℕ) → live_count f n < n → all_live f n ≡ false
unfolding all_live
room_all f n h = ne_eqb (live_count f n) n (λ e. omega arith)

-- with room some slot is spare
pub room_spare : (f : Table) (n : ℕ) → live_count f n < n → Gap (live f n) n
unfolding live_count
room_spare f n h = count_gap (live f n) n h
