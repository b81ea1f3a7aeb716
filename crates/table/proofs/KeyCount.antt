-- The live count is the number of keys held. Assumes nothing.
use mathlib.Core.Path.{◌≡◌, refl, sym, ◌∙◌}
use mathlib.Core.Option.{Option}
use mathlib.Core.List.{List, []}
use Prim.Native.Nat.{ℕ, zero, suc}
use lib.ListN.{length}
use Rattle.prelude.specs.Filter.{filter}
use Rattle.prelude.specs.Members.{In, Once, slot_numbers}
use Rattle.prelude.specs.Keys.{Keys, sharing}
use Rattle.prelude.proofs.Count.{count-filter}
use Rattle.prelude.proofs.Keys.{keys_many}
use Rattle.prelude.proofs.Lists.{slots-in, in_slots, once_slots}
use Rattle.sorting.proofs.Order.{filter_in, in_filter, filter_holds, once_filter}
use Rattle.layout.specs.Content.{Table}
use Rattle.table.specs.Table.{map_of, live, live_count}
use Rattle.table.proofs.defs.Chains.{Chains}
use Rattle.table.proofs.defs.Keys.{live_keys}
use Rattle.table.proofs.Sharing.{keys_length, chain_keys}

-- the live slots as the one chain of one head
abbrev one : Table → (n h : ℕ) → List ℕ
one f n zero = filter (live f n) (slot_numbers n)
one f n (suc h) = []

one_chain : (f : Table) (n : ℕ) → Chains f n (λ k. 0) (one f n)
one_chain f n =
    record {
      slot = λ h t i. slots-in n t (filter_in (live f n) t (slot_numbers n) (here h t i).1);
      alive = λ h t i. filter_holds (live f n) t (slot_numbers n) (here h t i).1;
      in_head = λ h t i. (here h t i).0;
      all = λ t i e. in_filter (live f n) t (slot_numbers n) (in_slots n t i) e;
      once = each_once;
    }
  where
    here : (h t : ℕ) → In t (one f n h) → (0 ≡ h) × In t (filter (live f n) (slot_numbers n))
    here zero t i = (refl, i)
    here (suc h) t i = absurd i

    each_once : (h : ℕ) → Once (one f n h)
    each_once zero = once_filter (live f n) (slot_numbers n) (once_slots n)
    each_once (suc h) = tt

-- the keys of a map that is the map of the slots
pub map_keys : (f : Table) (n : ℕ) (m : ℕ → Option (List ℕ)) → ((k : ℕ) → map_of f n k ≡ m k) → Keys m (live_keys f n)
unfolding sharing live_keys
map_keys f n m h = chain_keys f n (λ k. 0) (one f n) (one_chain f n) m h 0

pub table_keys : (f : Table) (n : ℕ) → Keys (map_of f n) (live_keys f n)
table_keys f n = map_keys f n (map_of f n) (λ k. refl)

-- as many slots are live as keys are held
pub live-keys : (f : Table) (n : ℕ) (m : ℕ → Option (List ℕ)) → ((k : ℕ) → map_of f n k ≡ m k) → (ks : List ℕ) → Keys m ks → live_count f n ≡ length ks
unfolding live_count live_keys
live-keys f n m h ks a =
    count-filter (live f n) n ∙ sym (keys_length f (filter (live f n) (slot_numbers n))) ∙ keys_many m (live_keys f n) ks (map_keys f n m h) a
