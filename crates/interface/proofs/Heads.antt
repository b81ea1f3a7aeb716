-- A call and recovery leave as many heads as they were lent. Assumes nothing.
use mathlib.Core.Path.{◌≡◌, refl, ◌∙◌}
use mathlib.Core.List.{List}
use Prim.Native.Nat.{ℕ}
use lib.ListN.{length}
use Rattle.prelude.proofs.Refusals.{by_refusal}
use Rattle.prelude.proofs.Tabulate.{tabulate-length}
use Rattle.index.specs.Index.{Index}
use Rattle.index.specs.Change.{take_first}
use Rattle.index.specs.Chained.{chained}
use Rattle.index.specs.declared.Found.{Found}
use Rattle.index.specs.declared.Found.TheVariants.{At, Missing, BadChain}
use Rattle.index.proofs.CallWrites.{take_heads, insert_at_heads, replace_at_heads, remove_at_heads}
use Rattle.recovery.specs.Recover.{Recovery, recovered_index, recovered, recover_result}
use Rattle.calls.specs.Change.{changed, write_done, write_unless, remove_done, remove_unless, remove_result_by, write_result_by}
use Rattle.calls.specs.Result.{CallResult, unchanged}
use Rattle.plainmap.specs.World.{World, Call, write, remove, get, locate, call_result, world_after, recovered_world, reads_only}

module _ (l : ℕ) (image : List ℕ) (i : Index) (key : ℕ) where
  write_heads : (value : List ℕ) (count : ℕ) (found : Found)
      → length (write_done l image i key value i.state.first (take_first i) count found).index.heads ≡ length i.heads
  unfolding write_done changed unchanged
  write_heads value count (At old prev compared) = replace_at_heads (take_first i) _ prev old _ ∙ take_heads i
  write_heads value count (Missing prev compared) = insert_at_heads (take_first i) _ prev _ ∙ take_heads i
  write_heads value count BadChain = refl

  removed_heads : (count : ℕ) (found : Found) → length (remove_done l image i key i.state.first (take_first i) count found).index.heads ≡ length i.heads
  unfolding remove_done changed unchanged
  removed_heads count (At old prev compared) = remove_at_heads (take_first i) _ prev old _ ∙ take_heads i
  removed_heads count (Missing prev compared) = refl
  removed_heads count BadChain = refl

pub called_heads : (l : ℕ) (w : World) (call : Call) → length (call_result l w call).index.heads ≡ length w.index.heads
unfolding call_result reads_only write_result_by write_unless remove_result_by remove_unless unchanged
called_heads l w (write mode key value) =
    by_refusal (λ (c : CallResult). length c.index.heads ≡ length w.index.heads) _ _ _ (write_heads l w.image w.index key value _ _) refl
called_heads l w (remove key) =
    by_refusal (λ (c : CallResult). length c.index.heads ≡ length w.index.heads) _ _ _ (removed_heads l w.image w.index key _ _) refl
called_heads l w (get key out) = refl
called_heads l w (locate key) = refl

pub recovered_heads : (l : ℕ) (image heads next : List ℕ) → length (recovered_world l image heads next).index.heads ≡ length heads
unfolding recovered_world world_after recover_result recovered recovered_index chained
recovered_heads l image heads next = by_refusal (λ (r : Recovery). length r.index.heads ≡ length heads) _ _ _ (tabulate-length _ 0 (length heads)) refl
