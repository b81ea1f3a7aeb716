-- The stores that open the void slots. Document 02, A.7: "Recovery answers by value, with no lent list, one store for
-- each void record, by slot, turning line A's mark against its close bit".
use Rattle.std.specs.Prelude.{List, ℕ, length, get_or, take}
use Rattle.prelude.specs.Range.{tabulate}
use Rattle.prelude.specs.Filter.{filter}
use Rattle.prelude.specs.Members.{slot_numbers}
use Rattle.layout.specs.Content.{content, size_field_in}
use Rattle.table.specs.Complete.{is_void}
use Rattle.stores.specs.Store.{Store, zipped}
use Rattle.stores.specs.Play.{word_numbers, values}
use Rattle.recovery.specs.declared.Invalidations.{Invalidations}

-- the void slots, by slot; their stores are `invalidating_stores m (void_slots l m n)`
unfoldable pub void_slots : (l : ℕ) → (m : ℕ → ℕ) → (n : ℕ) → List ℕ
void_slots l m n = filter (is_void (content l m) (size_field_in l m) n) (slot_numbers n)

-- stores by value: entries past them are zero
unfoldable pub invalidations_of : List Store → Invalidations
invalidations_of ss =
    record {
      count = length ss;
      at = tabulate (λ i. get_or (word_numbers ss) i 0) 0 8;
      value = tabulate (λ i. get_or (values ss) i 0) 0 8;
    }

-- and the stores back from them, as play takes them
unfoldable pub stores_in : Invalidations → List Store
stores_in o = zipped (take o.count o.at) (take o.count o.value)
