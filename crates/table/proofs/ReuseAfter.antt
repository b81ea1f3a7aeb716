-- The reuse chain after a call that is done. Assumes nothing.
use mathlib.Core.Path.{◌≡◌, ap, ◌∙◌}
use mathlib.Core.Bool.{true, not}
use mathlib.Core.List.{List}
use Prim.Native.Nat.{ℕ}
use borrow.Author.Tests.{not-true}
use Rattle.layout.specs.Content.{Table}
use Rattle.prelude.specs.Members.{In}
use Rattle.prelude.proofs.defs.Among.{member}
use Rattle.prelude.proofs.Among.{not_member}
use Rattle.prelude.proofs.Choice.{true-false}
use Rattle.sorting.proofs.Order.{filter_in, filter_holds}
use Rattle.table.specs.Complete.{SizeFields}
use Rattle.table.specs.Reuse.{BrokenFirst}
use Rattle.table.specs.Table.{live, key_in, is_record}
use Rattle.table.proofs.defs.Basket.{Basket}
use Rattle.table.proofs.defs.Reuse.{Spares}
use Rattle.table.proofs.defs.ReuseAfter.{left_of, reuse_after, joins_of}
use Rattle.table.proofs.defs.Struck.{Struck, Finished}
use Rattle.table.proofs.defs.Write.{holder}
use Rattle.table.proofs.Broken.{broken_append, broken_carry, broken_filter, record_whole}
use Rattle.table.proofs.Held.{is_holder, Holder, holder_is}
use Rattle.table.proofs.Joins.{old, From, own_slot, joins_from}
use Rattle.table.proofs.OneSlot.{weight_counts}
use Rattle.table.proofs.Struck.{not_taken}

module _ {f f' : Table} {num num' : SizeFields} {n w : ℕ} {taken : List ℕ} {new : Table}
    (b : Basket f num n w taken new) (st : Struck f f' num num' n taken new) (z : Finished f' num' taken new)
    {reuse : List ℕ} (sp : Spares f n reuse) where
  pub left-in : (t : ℕ) → In t (left_of taken reuse) → In t reuse
  unfolding left_of
  left-in t i = filter_in (λ x. not (member taken x)) t reuse i

  pub left_out : (t : ℕ) → In t (left_of taken reuse) → In t taken → ⊥
  unfolding left_of
  left_out t i = not_member taken t (not-true (member taken t) (filter_holds (λ x. not (member taken x)) t reuse i))

  old_away : (t : ℕ) → live f n t ≡ true → In t taken → ⊥
  old_away t e j = true-false e (b.spare t j)

  -- what is appended has a record
  from_record : (t : ℕ) → From f n taken new t → is_record (f' t) ≡ true
  from_record t (own_slot j p) = ap is_record (z t j).0 ∙ (b.records t j).counted
  from_record t (old s j p e) = ap (λ (x : ℕ). is_record (f' x)) e ∙ go (is_holder f n (key_in (new s)) p)
    where
      go : Holder f n (key_in (new s)) → is_record (f' (holder f n (key_in (new s)))) ≡ true
      go (holder_is i a x) =
          ap is_record (not_taken b st _ i (old_away _ a)).0 ∙ weight_counts (key_in (new s)) (f (holder f n (key_in (new s)))) x

  -- a slot that is left is as it was
  pub left_same : (t : ℕ) → In t (left_of taken reuse) → f' t ≡ f t
  left_same t i = (not_taken b st t (sp.slot t (left-in t i)) (left_out t i)).0

  pub finished_first : BrokenFirst f reuse → BrokenFirst f' (reuse_after f n taken new reuse)
  unfolding reuse_after left_of
  finished_first o =
      broken_append f' (left_of taken reuse) (joins_of f n taken new)
      (broken_carry f f' (left_of taken reuse) left_same (broken_filter f (λ t. not (member taken t)) reuse o))
      (λ t i. record_whole (f' t) (from_record t (joins_from f n taken new t i)))
