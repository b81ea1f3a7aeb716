-- Answers of `calls_basket_write_code::records::fill_basket_stores`.
use mathlib.Core.Path.{◌≡◌}
use Prim.Native.Nat.{◌+◌, ◌-◌, ◌*◌, ◌≤◌, ◌<◌}
use native.Mathlib.Omega.{arith}
use lib.ListN.{length}
use Rattle.table.specs.Complete.{size_field_for}
use Rattle.calls.specs.BasketItems.{item_at}
use Rattle.calls.proofs.BasketStores.{value_of, size_within, Storing, storing_starts, storing_on, recordable, storing_ends}
use borrow.Author.Rules.{rules}
use Rattle.calls_basket_write_code.proofs.records.fill_basket_stores.Goals as goal

pub loop-j-init : goal.loop-j-init
loop-j-init c =
    (c.number_for-number.ensures, storing_starts _ _ _ _ _ _ _ _ _)

pub overflow_add-end : goal.overflow_add-end
unfolding item_at
overflow_add-end c =
    omega (arith, size_within _ _ _ _ _ _ _ _ c.requires _ c.loop-j-test.true _ c.size_by.ensures)

pub slice_bounds-value-count : goal.slice_bounds-value-count
slice_bounds-value-count c =
    omega arith

pub slice_bounds-value-start : goal.slice_bounds-value-start
unfolding item_at
slice_bounds-value-start c =
    omega (arith, size_within _ _ _ _ _ _ _ _ c.requires _ c.loop-j-test.true _ c.size_by.ensures)

pub slice_bounds-value-end : goal.slice_bounds-value-end
unfolding item_at
slice_bounds-value-end c =
    search (rules, size_within _ _ _ _ _ _ _ _ c.requires _ c.loop-j-test.true _ c.size_by.ensures)

pub record_stores_at-requires : goal.record_stores_at-requires
unfolding item_at
record_stores_at-requires c = (
  recordable _ _ _ _ _ _ _ _ _ _ _ _ c.loop-j.invariant.1 c.requires c.loop-j-test.true _ _ _ c.kind_by-kind.ensures c.loop-j.invariant.0
      (value_of _ _ _ _ c.size_by.ensures (omega (arith, size_within _ _ _ _ _ _ _ _ c.requires _ c.loop-j-test.true _ c.size_by.ensures))),
  c.requires.slot_fits _ c.loop-j-test.true,
  c.requires.slot_in _ c.loop-j-test.true,
  omega (arith, c.loop-j.invariant.1.fill.ats.size, c.requires.at_room, c.loop-j-test.true),
  omega (arith, c.loop-j.invariant.1.fill.vals.size, c.requires.words_room, c.loop-j-test.true),
)

pub loop-j-preserved : goal.loop-j-preserved
unfolding item_at
loop-j-preserved c = (
  c.loop-j.invariant.0,
  storing_on _ _ _ _ _ _ _ _ _ _ _ _ c.loop-j.invariant.1 c.requires c.loop-j-test.true _ _ _ _ _ _
      c.high_in-high.ensures.result c.kind_by-kind.ensures c.loop-j.invariant.0
      (value_of _ _ _ _ c.size_by.ensures (omega (arith, size_within _ _ _ _ _ _ _ _ c.requires _ c.loop-j-test.true _ c.size_by.ensures)))
      c.record_stores_at.ensures.stores.0 c.record_stores_at.ensures.stores.1,
)

pub returns : goal.returns
returns c =
    record { result = (storing_ends _ _ _ _ _ _ _ _ _ _ _ _ c.loop-j.invariant.1 c.requires c.loop-j-test.false) }
