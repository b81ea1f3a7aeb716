-- The counts of an accepted image, from what recovery told of it. Assumes nothing.
use mathlib.Core.Path.{◌≡◌, sym, ◌∙◌}
use mathlib.Core.List.{List}
use Prim.Native.Nat.{ℕ, ◌-◌, ◌≤◌}
use Rattle.prelude.specs.Range.{count}
use Rattle.prelude.proofs.Count.{count-filter}
use Rattle.layout.specs.Size.{slots_in}
use Rattle.layout.specs.Content.{contents_of, size_fields_of}
use Rattle.table.specs.Complete.{is_void}
use Rattle.recovery.specs.Invalidation.{void_slots}
use Rattle.recovery.specs.declared.Classes.{Classes}
use Rattle.recovery.specs.declared.Invalidations.{Invalidations}
use Rattle.slot_counts.specs.Count.{counts_in}
use Rattle.slot_counts.specs.inner.Countable.{void_removes, Countable}
use Rattle.slot_counts.proofs.Counts.{void_split, puts_left, live_left, removes_left, counted_is}
use Rattle.slot_counts.proofs.VoidRecords.{opened_count}

module _ (image : List ℕ) (l : ℕ) (all : Classes) (live : ℕ) (o : Invalidations) (g : Countable image l all live o) (removes : ℕ)
    (r : removes ≡ void_removes (contents_of l image) (size_fields_of l image) (slots_in image)) where
  void_is : o.count ≡ count (is_void (contents_of l image) (size_fields_of l image) (slots_in image)) (slots_in image)
  unfolding void_slots
  void_is = opened_count image l o g.opens ∙ sym (count-filter _ (slots_in image))

  -- each difference is one of numbers
  pub accepted_void : removes ≤ o.count
  accepted_void = void_split (contents_of l image) (size_fields_of l image) (slots_in image) all g.classed live o.count removes g.live_is void_is r

  pub accepted_puts : o.count - removes ≤ all.puts
  accepted_puts = puts_left (contents_of l image) (size_fields_of l image) (slots_in image) all g.classed live o.count removes g.live_is void_is r

  pub accepted_live : live ≤ all.puts - (o.count - removes)
  accepted_live = live_left (contents_of l image) (size_fields_of l image) (slots_in image) all g.classed live o.count removes g.live_is void_is r

  pub accepted_removes : removes ≤ all.removes
  accepted_removes = removes_left (contents_of l image) (size_fields_of l image) (slots_in image) all g.classed live o.count removes g.live_is void_is r

  -- and the counts are these
  pub accepted_counts : record {
    live = live;
    hidden = all.puts - (o.count - removes) - live;
    removes = all.removes - removes;
    void = o.count;
    broken = all.broken;
    empty = all.empty;
  }
      ≡ counts_in l image
  unfolding counts_in
  accepted_counts = counted_is (contents_of l image) (size_fields_of l image) (slots_in image) all g.classed live o.count removes g.live_is void_is r
