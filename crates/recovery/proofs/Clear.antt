-- What slots that recovery does not refuse are: none of their refusals is due. Assumes nothing.
use mathlib.Core.Path.{◌≡◌}
use mathlib.Core.Bool.{false}
use Prim.Native.Nat.{ℕ}
use native.Mathlib.Omega.{arith}
use Rattle.prelude.specs.Range.{any_of, at_lowest}
use Rattle.prelude.specs.Members.{Slot}
use Rattle.prelude.proofs.Lowest.{clear_at}
use Rattle.layout.specs.Content.{content, size_field_in}
use Rattle.layout.specs.Fault.{mark_fault, record_fault}
use Rattle.prelude.proofs.Refusals.{refuse_if_zero, or_else_zero}
use Rattle.table.specs.Table.{many_broken, all_live}
use Rattle.table.specs.Complete.{settled}
use Rattle.table.specs.Shared.{sharers_fault}
use Rattle.recovery.specs.Recover.{settled_fault, slots_fault}

pub record Clear (l : ℕ) (m : ℕ → ℕ) (n : ℕ) : Type 0 where
  pub marks : any_of (mark_fault m) 1 n ≡ false
  pub records : (s : ℕ) → Slot n s → record_fault l m s ≡ 0
  pub sharers : sharers_fault (content l m) (size_field_in l m) n ≡ false
  pub few_broken : many_broken (settled (content l m) (size_field_in l m) n) n ≡ false
  pub room : all_live (settled (content l m) (size_field_in l m) n) n ≡ false

pub slots_clear : (l : ℕ) (m : ℕ → ℕ) (n : ℕ) → slots_fault l m n ≡ 0 → Clear l m n
unfolding slots_fault settled_fault
slots_clear l m n z =
    let a = refuse_if_zero _ 5 _ z (omega arith) in
    let b = or_else_zero (at_lowest (record_fault l m) n) _ a.1 in
    let c = refuse_if_zero _ 7 _ b.1 (omega arith) in
    let d = refuse_if_zero _ 25 _ c.1 (omega arith) in
    let e = refuse_if_zero _ 8 _ d.1 (omega arith) in
    record { marks = a.0; records = clear_at (record_fault l m) n b.0; sharers = c.0; few_broken = d.0; room = e.0 }
