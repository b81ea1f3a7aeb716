-- Stores that play takes are inside the image. Assumes nothing.
use mathlib.Core.Path.{◌≡◌, refl, ap}
use mathlib.Core.List.{List, [], ◌∷◌}
use Prim.Native.Nat.{ℕ, suc, ◌+◌, ◌*◌, ◌≤◌, ◌<◌}
use native.Mathlib.Omega.{arith}
use lib.ListN.{length, get_or}
use Rattle.prelude.specs.Members.{none_left, one_more}
use Rattle.stores.specs.Store.{Store}
use Rattle.stores.specs.Play.{Played, play_end, play_list_result, list_fault, word_numbers, values}
use Rattle.stores.proofs.ListPlay.{all_inside}
use Rattle.restart_machine.proofs.defs.Laws.{Inside}

pub played_inside : (image : List ℕ) (ss : List Store) (end : List ℕ) → play_list_result image (word_numbers ss) (values ss) ≡ play_end 0 end
    → Inside (length image) ss
unfolding play_list_result
played_inside image ss end e =
    each ss (all_inside (length image) ss (list_fault (length image) (word_numbers ss) (length (values ss))) refl (ap (λ (p : Played). p.answer) e))
  where
    each : (ss : List Store) → ((i : ℕ) → i < length ss → 8 * (get_or ss i (record { word = 0; value = 0 })).word + 8 ≤ length image) → Inside (length image) ss
    each [] h = none_left
    each (s ∷ ss) h = one_more (h 0 (omega arith)) (each ss (λ i p. h (suc i) (omega arith)))
