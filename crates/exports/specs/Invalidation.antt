-- Recovery's invalidating stores in lent numbers. Document 02, A.7: "Recovery answers by value, with no lent list, one
-- store for each void record, by slot".
use Rattle.std.specs.Prelude.{List, ℕ, get_or}
use Rattle.interface.specs.Set.{Invalidations}

-- their count stands in one lent slice, the word numbers in another, and the values in a third
unfoldable pub invalidations_from : (count at value : List ℕ) → Invalidations
invalidations_from count at value = record { count = get_or count 0 0; at = at; value = value }
