-- Recovery's answer, and the index that it leaves, do not depend on what the lent index held; the stores that it hands out. Assumes nothing.
use mathlib.Core.Path.{◌≡◌, sym, ap, ap₂, ◌∙◌}
use mathlib.Core.List.{List}
use Prim.Native.Nat.{ℕ}
use lib.ListN.{length}
use Rattle.words.specs.Word.{word}
use Rattle.layout.specs.Size.{slots_in}
use Rattle.table.specs.Complete.{table_of}
use Rattle.prelude.proofs.Refusals.{taken_leaves}
use Rattle.stores.specs.Store.{Store}
use Rattle.stores.specs.Invalidation.{invalidating_stores}
use Rattle.recovery.specs.Invalidation.{void_slots}
use Rattle.recovery.specs.Recover.{recover_fault, recovered, recover_result}

abbrev stores : (l : ℕ) → (image : List ℕ) → List Store
stores l image = invalidating_stores (word image) (void_slots l (word image) (slots_in image))

-- a recovery that is not refused leaves the recovered index
pub recovery_taken : (l : ℕ) (image heads next : List ℕ) → recover_fault l image (length heads) (length next) ≡ 0
    → recover_result l image heads next ≡ recovered (table_of l image) (slots_in image) (length heads) (stores l image)
unfolding recover_result
recovery_taken l image heads next z =
    taken_leaves (recovered (table_of l image) (slots_in image) (length heads) (stores l image)) _ (recover_fault l image (length heads) (length next)) z

pub same_recovery : (l : ℕ) (image heads next heads' next' : List ℕ) → length heads ≡ length heads' → length next ≡ length next'
    → recover_fault l image (length heads) (length next) ≡ 0 → recover_result l image heads next ≡ recover_result l image heads' next'
same_recovery l image heads next heads' next' p q z =
    recovery_taken l image heads next z
    ∙ ap (λ (b : ℕ). recovered (table_of l image) (slots_in image) b (stores l image)) p
    ∙ sym (recovery_taken l image heads' next' (sym (ap₂ (recover_fault l image) p q) ∙ z))
