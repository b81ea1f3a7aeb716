-- A table whose slots are all empty, as format leaves it: it is accepted, and has room. Assumes nothing.
use mathlib.Core.Path.{◌≡◌, ap, ◌∙◌}
use mathlib.Core.Bool.{true, false}
use Prim.Native.Nat.{ℕ, ◌≤◌}
use native.Mathlib.Omega.{arith}
use Rattle.layout.specs.Content.{Table, empty}
use Rattle.prelude.specs.Members.{Slot}
use Rattle.prelude.proofs.Choice.{true-false}
use Rattle.prelude.proofs.Count.{count_none}
use Rattle.table.specs.Complete.{SizeFields, NoneVoid, settled}
use Rattle.table.specs.Table.{is_record, live, deciding_put, broken_count, is_broken, live_count}
use Rattle.table.proofs.defs.Room.{RoomToTake, room_at}
use Rattle.table.proofs.defs.Struck.{AcceptedTable}
use Rattle.table.proofs.Broken.{none_broken}
use Rattle.table.proofs.Complete.{not_void, settled_same}

module _ (f : Table) (num : SizeFields) (n : ℕ) (blank : (t : ℕ) → Slot n t → f t ≡ empty) where
  no_record : (t : ℕ) → Slot n t → is_record (f t) ≡ true → ⊥
  unfolding is_record
  no_record t i e = true-false e (ap is_record (blank t i))

  pub format_none_void : NoneVoid f num n
  format_none_void t i = not_void f num n t (λ c. absurd (no_record t i c))

  settled-empty : (t : ℕ) → Slot n t → settled f num n t ≡ empty
  settled-empty t i = settled_same f num n t (format_none_void t i) ∙ blank t i

  settled_idle : (t : ℕ) → Slot n t → live (settled f num n) n t ≡ false
  unfolding live deciding_put
  settled_idle t i = ap (deciding_put (settled f num n) n t) (settled-empty t i)

  pub format_accepted : 1 ≤ n → AcceptedTable f num n
  unfolding broken_count is_broken live_count
  format_accepted h =
      record {
        agreed =
            record {
              numbers = λ s t i j p q e. absurd (no_record s i p);
              few = λ s i p. absurd (no_record s i p);
              keys = λ s t i j ne p q e k. no_record s i p;
            };
        few = none_broken (settled f num n) n (λ t i. ap is_broken (settled-empty t i));
        idle = omega (arith, count_none (live (settled f num n) n) n settled_idle);
      }

  pub format_room : 1 ≤ n → RoomToTake (settled f num n) n
  unfolding is_record
  format_room h =
      let first : Slot n 1 = omega arith in
      room_at 1 first (settled_idle 1 first) (λ e. absurd (true-false e (ap is_record (settled-empty 1 first))))
