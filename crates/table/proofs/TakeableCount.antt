-- How many slots of the reuse chain may be taken. Assumes nothing.
use mathlib.Core.Path.{◌≡◌, sym, ap, ◌∙◌}
use mathlib.Core.Bool.{not, ◌&&◌}
use mathlib.Core.List.{List}
use Prim.Native.Nat.{ℕ, ◌≤◌}
use native.Mathlib.Omega.{arith}
use lib.ListN.{length}
use borrow.Author.Tests.{not-true}
use Rattle.layout.specs.Content.{Table}
use Rattle.prelude.specs.Filter.{filter}
use Rattle.prelude.specs.Members.{Slot}
use Rattle.prelude.proofs.defs.Among.{member}
use Rattle.prelude.proofs.Among.{count-member, in_member, member_in}
use Rattle.prelude.proofs.Choice.{same_test, both, both_left, both_right}
use Rattle.prelude.proofs.Count.{count_same}
use Rattle.prelude.proofs.Lists.{front_length}
use Rattle.sorting.proofs.Order.{once_filter, filter_in, in_filter, filter_holds}
use Rattle.table.specs.Table.{spare, live}
use Rattle.table.specs.Takeable.{may_take, takeable_count, taken_of}
use Rattle.table.proofs.defs.Reuse.{Spares}

-- as many slots of reuse may be taken as the table says
pub takeable-count : (f : Table) (n : ℕ) (reuse : List ℕ) → Spares f n reuse → length (filter (may_take f n) reuse) ≡ takeable_count f n
unfolding takeable_count spare
takeable-count f n reuse sp =
    sym (count_same (λ t. spare f n t && may_take f n t) (member l) n each
    ∙ count-member l n (once_filter (may_take f n) reuse sp.once) (λ t i. sp.slot t (filter_in (may_take f n) t reuse i)))
  where
    l : List ℕ
    l = filter (may_take f n) reuse

    each : (t : ℕ) → Slot n t → spare f n t && may_take f n t ≡ member l t
    each t i =
        same_test _ _
        (λ e. in_member l t (in_filter (may_take f n) t reuse (sp.all t i (not-true (live f n t) (both_left (spare f n t) _ e)))
        (both_right (spare f n t) _ e)))
        (λ e.
        let j = member_in l t e in
        both (spare f n t) _ (ap not (sp.idle t (filter_in (may_take f n) t reuse j))) (filter_holds (may_take f n) t reuse j))

-- where there are enough a call gets its slots
pub room_fine : (f : Table) (n m : ℕ) (reuse : List ℕ) → Spares f n reuse → m ≤ takeable_count f n → length (taken_of f n m reuse) ≡ m
unfolding taken_of
room_fine f n m reuse sp h = sym (front_length m (filter (may_take f n) reuse) (omega (arith, takeable-count f n reuse sp)))
