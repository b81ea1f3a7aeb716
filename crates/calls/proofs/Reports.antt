-- The count of slots compared that a call reports, whatever it answers. Assumes nothing.
use mathlib.Core.Path.{◌≡◌, refl}
use mathlib.Core.Bool.{Bool}
use mathlib.Core.List.{List}
use Prim.Native.Nat.{ℕ}
use lib.ListN.{length}
use Rattle.prelude.proofs.Refusals.{by_refusal}
use Rattle.index.specs.Index.{Index}
use Rattle.index.specs.Walk.{search}
use Rattle.index.specs.declared.Mode.{Mode}
use Rattle.index.specs.declared.Found.{Found}
use Rattle.index.specs.declared.Found.TheVariants.{At, Missing, BadChain}
use Rattle.calls.specs.Result.{CallResult, ReadOnlyResult, unchanged}
use Rattle.calls.specs.Compared.{key_compared}
use Rattle.calls.specs.Change.{changed, write_compared, write_done, write_unless, write_result_by, remove_done, remove_unless, remove_result_by}
use Rattle.calls.specs.Get.{get_done, get_result}

module _ (l : ℕ) (image : List ℕ) (i : Index) (key : ℕ) where
  write_done_reports : (value : List ℕ) (t : ℕ) (rest : Index) (count : ℕ) (found : Found)
      → (write_done l image i key value t rest count found).compared ≡ count
  unfolding write_done changed unchanged
  write_done_reports value t rest count (At old prev compared) = refl
  write_done_reports value t rest count (Missing prev compared) = refl
  write_done_reports value t rest count BadChain = refl

  remove_done_reports : (t : ℕ) (rest : Index) (count : ℕ) (found : Found) → (remove_done l image i key t rest count found).compared ≡ count
  unfolding remove_done changed unchanged
  remove_done_reports t rest count (At old prev compared) = refl
  remove_done_reports t rest count (Missing prev compared) = refl
  remove_done_reports t rest count BadChain = refl

  pub write_reports : (own : Bool) (mode : Mode) (value : List ℕ)
      → (write_result_by own l image i mode key value).compared ≡ write_compared l image i key (length value)
  unfolding write_result_by write_unless unchanged
  write_reports own mode value =
      by_refusal (λ (r : CallResult). r.compared ≡ write_compared l image i key (length value)) _ _ _
      (write_done_reports value _ _ _ (search l image i.heads i.next key)) refl

  pub remove_reports : (own : Bool) → (remove_result_by own l image i key).compared ≡ key_compared l image i.heads i.next key
  unfolding remove_result_by remove_unless unchanged
  remove_reports own =
      by_refusal (λ (r : CallResult). r.compared ≡ key_compared l image i.heads i.next key) _ _ _
      (remove_done_reports _ _ _ (search l image i.heads i.next key)) refl

get_done_reports : (l : ℕ) (image out : List ℕ) (count : ℕ) (found : Found) → (get_done l image out count found).compared ≡ count
unfolding get_done
get_done_reports l image out count (At old prev compared) = refl
get_done_reports l image out count (Missing prev compared) = refl
get_done_reports l image out count BadChain = refl

pub get_reports : (l : ℕ) (image heads next : List ℕ) (key : ℕ) (out : List ℕ)
    → (get_result l image heads next key out).compared ≡ key_compared l image heads next key
unfolding get_result
get_reports l image heads next key out =
    by_refusal (λ (r : ReadOnlyResult). r.compared ≡ key_compared l image heads next key) _ _ _
    (get_done_reports l image out _ (search l image heads next key)) refl
