-- The stores that recovery hands out for void records. Document 02, A.7: "one store for each void record, by slot,
-- turning line A's mark against its close bit".
use Rattle.std.specs.Prelude.{List, [], ◌∷◌, ℕ, ◌*◌}
use Rattle.layout.specs.Line.{line, first_word}
use Rattle.stores.specs.Store.{Store}

-- the store that opens line A of slot s; the close bit is the one that stands in the words m
unfoldable pub invalidating_store : (m : ℕ → ℕ) → (s : ℕ) → Store
invalidating_store m s = record { word = 16 * s; value = first_word (line m (2 * s) 7) }

-- those of these slots
unfoldable pub invalidating_stores : (m : ℕ → ℕ) → List ℕ → List Store
invalidating_stores m [] = []
invalidating_stores m (s ∷ slots) = invalidating_store m s ∷ invalidating_stores m slots
