-- The refusals that go by the reuse chain and the live count: what none of them says. Assumes nothing.
use mathlib.Core.Path.{◌≡◌}
use mathlib.Core.List.{List}
use Prim.Native.Nat.{ℕ, ◌+◌, ◌≤◌, ◌<◌}
use native.Mathlib.Omega.{arith}
use borrow.Author.Tests.{ltb-false, leb-false, eqb-false}
use Rattle.prelude.proofs.Refusals.{refuse_if_zero, or_else_zero}
use Rattle.index.specs.Allocation.{Allocation, ends_fault, reuse_fault, room_fault}

-- the ends of a reuse chain from which a slot can be taken
pub record Reusable (n first last : ℕ) : Type 0 where
  pub first_low : 0 < first
  pub first_high : first ≤ n
  pub last_low : 0 < last
  pub last_high : last ≤ n

pub reusable : (n first last : ℕ) → ends_fault n first last ≡ 0 → Reusable n first last
unfolding ends_fault
reusable n first last e =
    let a = refuse_if_zero _ _ _ e (omega arith) in
    let b = refuse_if_zero _ _ _ a.1 (omega arith) in
    let c = refuse_if_zero _ _ _ b.1 (omega arith) in
    let d = refuse_if_zero _ _ _ c.1 (omega arith) in
    record {
      first_low = omega (arith, eqb-false first 0 a.0);
      first_high = ltb-false _ _ b.0;
      last_low = omega (arith, eqb-false last 0 c.0);
      last_high = ltb-false _ _ d.0;
    }

module _ (taking : Allocation) (n live removes : ℕ) where
  pub reuse_ends : (first last : ℕ) → reuse_fault taking n first last live removes ≡ 0 → Reusable n first last
  unfolding reuse_fault
  reuse_ends first last e = reusable n first last (or_else_zero _ _ e).0

  -- as many are live as are removed
  pub reuse_live : (first last : ℕ) → reuse_fault taking n first last live removes ≡ 0 → removes ≤ live
  unfolding reuse_fault
  reuse_live first last e = ltb-false _ _ (refuse_if_zero _ _ _ (or_else_zero _ _ (or_else_zero _ _ e).1).0 (omega arith)).0

  -- a spare slot is left
  pub room_fine : (inserts : ℕ) → room_fault taking n live inserts removes ≡ 0 → live + inserts < n + removes
  unfolding room_fault
  room_fine inserts e = leb-false _ _ (refuse_if_zero _ _ _ (or_else_zero _ _ e).1 (omega arith)).0
