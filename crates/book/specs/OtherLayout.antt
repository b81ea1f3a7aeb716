-- EACH LAYOUT'S OWN CALLS, as one statement over every call of the set and of the book. Document 02, A.11: "Each layout
-- has its own calls, book and baskets included, which give 3 on the other's images".
use Rattle.std.specs.Prelude.{◌≡◌, ℕ}
use Rattle.interface.specs.Set.{World, HeaderOf, Accepted}
use Rattle.interface.specs.OtherLayout.{CallsGive3}
use Rattle.book.specs.Steps.{Step, declined, idle, booked}

-- every call of layout l on the set w is refused with 3 and changes nothing
pub record AllGive3 (l : ℕ) (w : World) : Type 0 where
  -- recover, insert, replace, remove, get, locate, baskets, count_slots and count_cuts
  pub calls : CallsGive3 l w
  -- new, acknowledge, fill and withdraw
  pub steps : (step : Step) → booked l w step ≡ idle (declined 3) w.index

-- where its image has the header with any other number as the header's layout, and so on every image that the recovery
-- of that layout accepts; the index and the state may be any
pub record OtherLayout : Type 0 where
  pub by_header : (l other : ℕ) → (other ≡ l → ⊥) → (w : World) → HeaderOf other w.image → AllGive3 l w
  pub on_accepted : (l other : ℕ) → (other ≡ l → ⊥) → (w : World) → Accepted other w.image → AllGive3 l w
