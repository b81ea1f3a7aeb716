-- One slot written, with the newest record of a key, or lost. Assumes nothing.
use mathlib.Core.Path.{refl}
use mathlib.Core.List.{List}
use Prim.Native.Nat.{ℕ}
use native.Mathlib.Omega.{arith}
use borrow.Author.Tests.{eqb-false}
use Rattle.layout.specs.Content.{Content, put_record, remove_record, highest_whole_in, Table}
use Rattle.table.specs.Table.{is_record, next_version}
use Rattle.table.proofs.defs.Write.{Above, upd, only, Record, Outside}
use Rattle.table.proofs.OneSlot.{weight_put_other, weight_put, weight_remove, upd_other, weight_remove_other}
use Rattle.prelude.proofs.Most.{greatest_above}

pub put-record : (w k : ℕ) (v : List ℕ) → Record (put_record w k v) w k
unfolding highest_whole_in is_record
put-record w k v = record { own = weight_put w k v; other = λ j h. weight_put_other w k v j h; tops = refl; counted = refl }

pub remove-record : (w k : ℕ) → Record (remove_record w k) w k
unfolding highest_whole_in is_record
remove-record w k = record { own = weight_remove w k; other = λ j h. weight_remove_other w k j h; tops = refl; counted = refl }

pub outside : (f : Table) (n s : ℕ) (c : Content) → Outside f (upd f s c) n (only s)
outside f n s c t i e = upd_other f s c t (eqb-false t s e)

pub above_next : (f : Table) (n : ℕ) → Above f n (next_version f n)
unfolding next_version
above_next f n t i = omega (arith, greatest_above (λ s. highest_whole_in (f s)) n t i)
