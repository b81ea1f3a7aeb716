-- A short history of the order book on a set of three slots, with what its steps answer and its totals.
use Rattle.std.specs.Prelude.{List, [], ◌∷◌, ℕ}
use Rattle.calls.specs.Format.{formatted}
use Rattle.plainmap.specs.World.{World, restarted}
use Rattle.plainmap.specs.Plain.{PlainMap}
use Rattle.plainmap.specs.Claims.{slots_map}
use Rattle.interface.specs.Event.{Event, done, struck, request_of}
use Rattle.book.specs.Steps.{Step, new, acknowledge, fill, withdraw, BookAnswer, taken, already, declined, booked}
use Rattle.book.specs.Plain.{world_after_step}
use Rattle.book.specs.Totals.{ordered_in, filled_in, withdrawn_in, total_of, map_at_end, open_total}
use Rattle.examples.specs.Trial.{recovering, cut_at}

-- what each step of a list answers
unfoldable pub book_answers : (l : ℕ) → World → List (Event Step) → List BookAnswer
book_answers l w [] = []
book_answers l w (event ∷ events) = (booked l w (request_of event)).answer ∷ book_answers l (world_after_step l w event) events

-- the totals of a list of steps, ordered, filled and withdrawn, and what is open at its end, by these keys
unfoldable pub totals : (l : ℕ) → World → PlainMap → List (Event Step) → (keys : List ℕ) → List ℕ
totals l w m events keys =
    total_of ordered_in l w m events ∷ total_of filled_in l w m events ∷ total_of withdrawn_in l w m events
    ∷ open_total (map_at_end l w m events) keys ∷ []

-- next numbers for three slots, with anything in them
unfoldable pub three_slots : List ℕ
three_slots = 9 ∷ 9 ∷ 9 ∷ 9 ∷ []

-- an empty set of three slots
unfoldable pub empty_book : World
empty_book = restarted 1 (formatted 1 512) (recovering three_slots)

-- its map
abbrev pub empty_map : PlainMap
empty_map = slots_map 1 (formatted 1 512)

-- two orders; order 7 acknowledged, and 30 of it filled; 20 more filled, which a cut makes absent; order 8 withdrawn by
-- a struck step all of whose stores stand; more filled than is open; a second acknowledge
unfoldable pub history : List (Event Step)
history =
    done (new 7 100) ∷ done (new 8 50) ∷ done (acknowledge 7) ∷ done (fill 7 30) ∷ struck (fill 7 20) (cut_at 8 3 three_slots)
    ∷ struck (withdraw 8) (cut_at 8 8 three_slots) ∷ done (fill 7 71) ∷ done (acknowledge 7) ∷ []

unfoldable pub history_answers : List BookAnswer
history_answers =
    taken (1 ∷ 1 ∷ []) ∷ taken (2 ∷ 2 ∷ []) ∷ taken (3 ∷ 3 ∷ []) ∷ taken (1 ∷ 4 ∷ []) ∷ taken (3 ∷ 5 ∷ []) ∷ taken (3 ∷ 6 ∷ [])
    ∷ declined 19 ∷ already (1 ∷ 4 ∷ []) ∷ []

-- 150 = 30 + 50 + 70
unfoldable pub history_totals : List ℕ
history_totals = 150 ∷ 30 ∷ 50 ∷ 70 ∷ []

-- the plain map at its end
abbrev pub history_map : PlainMap
history_map = map_at_end 1 empty_book empty_map history

-- the keys that it holds
unfoldable pub history_keys : List ℕ
history_keys = 7 ∷ []
