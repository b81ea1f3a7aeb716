-- The calls of a layout on an image of another. Assumes nothing.
use mathlib.Core.Path.{◌≡◌, ap}
use mathlib.Core.Bool.{false}
use mathlib.Core.List.{List}
use Prim.Native.Nat.{ℕ}
use lib.ListN.{replicate}
use Rattle.prelude.specs.Answer.{refused}
use Rattle.interface.specs.Set.{World, HeaderOf, call_result, get, locate, get_result, locate_result, limit, reads_only}
use Rattle.interface.specs.OtherLayout.{CallsGive3}
use Rattle.interface.proofs.OtherLayout.{calls_give_3, accepted_header}
use Rattle.book.specs.Steps.{Step, new, acknowledge, fill, withdraw, declined, idle, none_there, sought_in, sought_by, seek, new_at, new_result_by}
use Rattle.book.specs.Steps.{acknowledge_at, acknowledge_result_by, fill_at, fill_result_by, withdraw_at, withdraw_result_by, booked, booked_by}
use Rattle.book.specs.OtherLayout.{AllGive3, OtherLayout}

module _ (l : ℕ) (w : World) (gives : CallsGive3 l w) where
  located : (key : ℕ) → (locate_result l w.image w.index.heads w.index.next key).answer ≡ refused 3
  unfolding call_result reads_only
  located key = gives.call (locate key)

  got : (key : ℕ) (out : List ℕ) → (get_result l w.image w.index.heads w.index.next key out).answer ≡ refused 3
  unfolding call_result reads_only
  got key out = gives.call (get key out)

  sought : (key : ℕ) → seek l w.image w.index.heads w.index.next key ≡ none_there 3
  unfolding seek sought_by sought_in
  sought key = ap (sought_in _) (got key (replicate (limit l) 0))

  step_3 : (step : Step) → booked l w step ≡ idle (declined 3) w.index
  unfolding booked_by new_result_by new_at acknowledge_result_by acknowledge_at fill_result_by fill_at withdraw_result_by withdraw_at
  step_3 (new key quantity) = ap (new_at false l w.image w.index key quantity) (located key)
  step_3 (acknowledge key) = ap (acknowledge_at false l w.image w.index key) (sought key)
  step_3 (fill key quantity) = ap (fill_at false l w.image w.index key quantity) (sought key)
  step_3 (withdraw key) = ap (withdraw_at false l w.image w.index key) (sought key)

all_3 : (l other : ℕ) → (other ≡ l → ⊥) → (w : World) → HeaderOf other w.image → AllGive3 l w
all_3 l other apart w h =
    let gives = calls_give_3 l other apart w h in
    record { calls = gives; steps = step_3 l w gives }

-- EVERY CALL of a layout gives 3 on an image of another
pub other_layout : OtherLayout
other_layout =
    record {
      by_header = all_3;
      on_accepted = λ l other apart w a. all_3 l other apart w (accepted_header other w.image a);
    }
