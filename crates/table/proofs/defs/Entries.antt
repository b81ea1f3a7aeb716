-- The records that a call writes, by the slots that they go to.
use mathlib.Core.Bool.{cond}
use mathlib.Core.List.{List, [], ◌∷◌}
use Prim.Native.Nat.{ℕ}
use lib.Dec.{eqb}
use Rattle.layout.specs.Content.{Content, empty, content_of_record}
use Rattle.stores.specs.Basket.{BasketRecord}

-- the record that an entry makes
abbrev pub record_of : (version : ℕ) → BasketRecord → Content
record_of version e = content_of_record e.kind version e.key e.value

-- the record that goes to slot t; an empty slot where none does
unfoldable pub record_at : (version : ℕ) → List BasketRecord → (t : ℕ) → Content
record_at version [] t = empty
record_at version (e ∷ es) t = cond (eqb t e.slot) (record_of version e) (record_at version es t)
