-- The refusal of a lent list of stores, by its first stores one after another. Assumes nothing.
use mathlib.Core.Path.{◌≡◌, refl, sym, ap, ◌∙◌}
use mathlib.Core.Bool.{Bool, true, false, cond, not}
use mathlib.Core.List.{List, [], ◌∷◌}
use Prim.Native.Nat.{ℕ, zero, suc, ◌+◌, ◌*◌, ◌<◌, ◌^◌}
use native.Mathlib.Nat.{add-zero, zero-add, add-suc}
use native.Mathlib.Omega.{arith}
use lib.Dec.{eqb, ltb}
use lib.ListN.{length, get_or}
use Rattle.prelude.specs.Refusal.{refuse_if}
use Rattle.prelude.specs.Range.{any_of}
use Rattle.prelude.proofs.Refusals.{refuse_if-false, alike}
use Rattle.prelude.proofs.Any.{any_last}
use Rattle.stores.specs.Store.{Store}
use Rattle.stores.specs.Play.{word_numbers, values, list_fault}
use Rattle.stores.proofs.Lists.{numbers-length, values_length}

-- by the first i stores
abbrev pub fault_to : (len : ℕ) → List Store → ℕ → ℕ
fault_to len list i = refuse_if (any_of (λ k. ltb len (8 * get_or (word_numbers list) k 0 + 8)) 0 i) 15 0

small : (b : Bool) → refuse_if b 15 0 < 2 ^ 32
unfolding refuse_if
small true = omega arith
small false = omega arith

pub fault_fits : (len : ℕ) (list : List Store) (i : ℕ) → fault_to len list i < 2 ^ 32
fault_fits len list i = small (any_of (λ k. ltb len (8 * get_or (word_numbers list) k 0 + 8)) 0 i)

pub fault_all : (len : ℕ) (list : List Store) → fault_to len list (length list) ≡ list_fault len (word_numbers list) (length (values list))
unfolding list_fault
fault_all len list =
    ap (fault_to len list) (sym (numbers-length list))
    ∙ sym (refuse_if-false (not (eqb (length (word_numbers list)) (length (values list)))) 15 _
    (alike _ _ _ _ refl refl (numbers-length list ∙ sym (values_length list))))
