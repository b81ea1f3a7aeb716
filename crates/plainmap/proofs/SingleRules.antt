-- Insert, replace and remove where the image is accepted and the index is its own: slot, stores and index are those of the taking rule. Assumes nothing.
use mathlib.Core.Path.{◌≡◌}
use mathlib.Core.List.{List}
use Prim.Native.Nat.{ℕ}
use Rattle.layout.specs.Size.{slots_in}
use Rattle.layout.specs.Record.{Layout}
use Rattle.layout.specs.Content.{contents_of, size_fields_of}
use Rattle.table.specs.Complete.{NoneVoid}
use Rattle.index.specs.Index.{Chain}
use Rattle.index.specs.declared.Mode.{Mode}
use Rattle.calls.specs.Change.{write_result, write_by_rule, remove_result, remove_by_rule}
use Rattle.plainmap.specs.World.{World, write, remove, call_result, call_result_by_rule}
use Rattle.plainmap.specs.Accepted.{Accepted}
use Rattle.plainmap.specs.Consistency.{IndexConsistent}
use Rattle.plainmap.proofs.Singles.{call_by_rule}

module _ (l : ℕ) (lay : Layout l) (w : World) (chains : Chain → List ℕ) (accepted : Accepted l w.image) (g : IndexConsistent l w chains)
    (none_void : NoneVoid (contents_of l w.image) (size_fields_of l w.image) (slots_in w.image)) where
  -- THE CALLS
  pub write_ruled : (mode : Mode) (key : ℕ) (value : List ℕ)
      → write_result l w.image w.index mode key value ≡ write_by_rule l w.image w.index mode key value
  unfolding call_result call_result_by_rule
  write_ruled mode key value = call_by_rule l lay w chains accepted g none_void (write mode key value)

  pub remove_ruled : (key : ℕ) → remove_result l w.image w.index key ≡ remove_by_rule l w.image w.index key
  unfolding call_result call_result_by_rule
  remove_ruled key = call_by_rule l lay w chains accepted g none_void (remove key)
