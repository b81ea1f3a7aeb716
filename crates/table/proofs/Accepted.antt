-- A call that takes the first slots of the reuse chain, and that recovery accepts whatever a cut leaves of it. Assumes nothing.
use mathlib.Core.Path.{◌≡◌, subst}
use mathlib.Core.Logic.{⊎_elim}
use mathlib.Core.List.{List}
use Prim.Native.Nat.{ℕ, ◌+◌, ◌≤◌, ◌<◌}
use native.Mathlib.Omega.{arith}
use lib.ListN.{length}
use Rattle.layout.specs.Content.{Table}
use Rattle.prelude.specs.Filter.{filter}
use Rattle.prelude.specs.Members.{In, Once}
use Rattle.prelude.proofs.Lists.{take_in, once_take}
use Rattle.sorting.proofs.Order.{filter_in, once_filter, filter_holds}
use Rattle.table.specs.Complete.{SizeFields, NoneVoid, settled}
use Rattle.table.specs.Reuse.{BrokenFirst}
use Rattle.table.specs.Table.{key_in, live_count, map_of, broken_count, broken_limit}
use Rattle.table.specs.Takeable.{taken_of, may_take}
use Rattle.table.proofs.defs.Basket.{Basket, puts_in, held_in}
use Rattle.table.proofs.defs.Reuse.{Spares}
use Rattle.table.proofs.defs.ReuseAfter.{BrokenTaken}
use Rattle.table.proofs.defs.Shared.{Agreed}
use Rattle.table.proofs.defs.Struck.{Struck, Finished, AcceptedTable, Unfinished}
use Rattle.table.proofs.defs.Write.{Above, Record}
use Rattle.table.proofs.Finished.{finished_or, finished_settled}
use Rattle.table.proofs.LiveAfter.{finished_count}
use Rattle.table.proofs.Alike.{alike_count}
use Rattle.table.proofs.StruckAgreed.{struck_agreed}
use Rattle.table.proofs.StruckBroken.{reuse_broken, struck_broken}
use Rattle.table.proofs.Unfinished.{unfinished_count}

module _ {f : Table} {n : ℕ} {taken : List ℕ} {reuse : List ℕ}
    (sp : Spares f n reuse) (first : taken_of f n (length taken) reuse ≡ taken) where
  taken-filter : (t : ℕ) → In t taken → In t (filter (may_take f n) reuse)
  unfolding taken_of
  taken-filter t i = take_in (length taken) t (filter (may_take f n) reuse) (rw first i)

  pub taken-reuse : (t : ℕ) → In t taken → In t reuse
  taken-reuse t i = filter_in (may_take f n) t reuse (taken-filter t i)

  taken_once : Once taken
  unfolding taken_of
  taken_once = subst Once first (once_take (length taken) (filter (may_take f n) reuse) (once_filter (may_take f n) reuse sp.once))

  -- the first slots of the reuse chain that may be taken make a basket
  pub reuse_basket : {num : SizeFields} {w : ℕ} {new : Table} → Agreed f num n → NoneVoid f num n → Above f n w → 0 < length taken → length taken ≤ 8
      → ((t : ℕ) → In t taken → Record (new t) w (key_in (new t)))
      → ((s t : ℕ) → In s taken → In t taken → key_in (new s) ≡ key_in (new t) → s ≡ t) → Basket f num n w taken new
  reuse_basket a clear above some few records keys =
      record {
        agreed = a;
        none_void = clear;
        above = above;
        some = some;
        few = few;
        once = taken_once;
        slot = λ t i. sp.slot t (taken-reuse t i);
        spare = λ t i. sp.idle t (taken-reuse t i);
        may = λ t i. filter_holds (may_take f n) t reuse (taken-filter t i);
        records = records;
        keys = keys;
      }

  pub taken_broken : BrokenFirst f reuse → BrokenTaken f n taken
  taken_broken o = subst (BrokenTaken f n) first (reuse_broken f n (length taken) reuse sp o)

module _ {f f' : Table} {num num' : SizeFields} {n w : ℕ} {taken : List ℕ} {new : Table}
    (b : Basket f num n w taken new) (st : Struck f f' num num' n taken new) where
  -- a slot is left that is not live
  pub finished_idle : Finished f' num' taken new → live_count f n + puts_in taken new < n + held_in taken new (map_of f n) → live_count f' n < n
  finished_idle z h = omega (arith, finished_count b st z)

  -- WHATEVER A CUT LEAVES, RECOVERY ACCEPTS IT
  pub struck_accepted : BrokenTaken f n taken → broken_count (settled f num n) n ≤ broken_limit → live_count f n < n
      → live_count f n + puts_in taken new < n + held_in taken new (map_of f n) → AcceptedTable f' num' n
  struck_accepted first few idle room =
      record {
        agreed = struck_agreed b st;
        few = struck_broken b st first few;
        idle = ⊎_elim done cut (finished_or b st);
      }
    where
      done : Finished f' num' taken new → live_count (settled f' num' n) n < n
      done z = omega (arith, alike_count f' (settled f' num' n) n (finished_settled b st z), finished_idle z room)

      cut : Unfinished f' taken new → live_count (settled f' num' n) n < n
      cut u = omega (arith, unfinished_count b st u)
