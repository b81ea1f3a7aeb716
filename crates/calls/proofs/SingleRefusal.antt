-- Insert, replace and remove are refused by the rules' number, with any image, index and state. Assumes nothing.
use mathlib.Core.Path.{◌≡◌, refl}
use mathlib.Core.Bool.{Bool}
use mathlib.Core.List.{List}
use Prim.Native.Nat.{ℕ, zero, suc}
use lib.ListN.{length}
use Rattle.prelude.specs.Answer.{refusal_in}
use Rattle.prelude.specs.Refusal.{unless_refused}
use Rattle.index.specs.Index.{Index}
use Rattle.index.specs.Walk.{search}
use Rattle.index.specs.declared.Mode.{Mode}
use Rattle.index.specs.declared.Found.{Found}
use Rattle.index.specs.declared.Found.TheVariants.{At, Missing, BadChain}
use Rattle.calls.specs.Change.{changed, write_fault_by, write_done, write_unless, write_result_by, remove_fault_by, remove_done, remove_unless}
use Rattle.calls.specs.Change.{remove_result_by}
use Rattle.calls.specs.Result.{CallResult, unchanged}
use Rattle.calls.proofs.Results.{write_bad, remove_bad}

-- a call that leaves `new`, which is no refusal, where its refusal k is 0, and else says k
pub refusal_by : (k : ℕ) (new old : CallResult) → (k ≡ 0 → refusal_in new.answer ≡ 0) → refusal_in old.answer ≡ k
    → refusal_in (unless_refused k new old).answer ≡ k
unfolding unless_refused
refusal_by zero new old done keeps = done refl
refusal_by (suc k) new old done keeps = keeps

module _ (own : Bool) (l : ℕ) (image : List ℕ) (i : Index) where
  write-done : (key : ℕ) (value : List ℕ) (t : ℕ) (rest : Index) (count : ℕ) (found : Found) → (found ≡ BadChain → ⊥)
      → refusal_in (write_done l image i key value t rest count found).answer ≡ 0
  unfolding write_done changed refusal_in
  write-done key value t rest count (At old prev compared) ne = refl
  write-done key value t rest count (Missing prev compared) ne = refl
  write-done key value t rest count BadChain ne = absurd (ne refl)

  remove-done : (key t : ℕ) (rest : Index) (count : ℕ) (found : Found) → (found ≡ BadChain → ⊥)
      → refusal_in (remove_done l image i key t rest count found).answer ≡ 0
  unfolding remove_done changed unchanged refusal_in
  remove-done key t rest count (At old prev compared) ne = refl
  remove-done key t rest count (Missing prev compared) ne = refl
  remove-done key t rest count BadChain ne = absurd (ne refl)

  -- THE REFUSALS
  pub write_refusal : (mode : Mode) (key : ℕ) (value : List ℕ)
      → refusal_in (write_result_by own l image i mode key value).answer ≡ write_fault_by own l image i mode key (length value)
  unfolding write_result_by write_unless unchanged refusal_in
  write_refusal mode key value =
      refusal_by _ _ _ (λ z. write-done key value _ _ _ (search l image i.heads i.next key) (write_bad own l image i mode key value z)) refl

  pub remove_refusal : (key : ℕ) → refusal_in (remove_result_by own l image i key).answer ≡ remove_fault_by own l image i key
  unfolding remove_result_by remove_unless unchanged refusal_in
  remove_refusal key = refusal_by _ _ _ (λ z. remove-done key _ _ _ (search l image i.heads i.next key) (remove_bad own l image i key z)) refl
