-- A basket as it is given. Document 02, A.7: "A basket names 1 to 8 distinct keys, each to be inserted, replaced or
-- removed."
use Rattle.std.specs.Prelude.{cond, List, [], ◌∷◌, ℕ, zero, suc, ◌+◌, ◌*◌, eqb, get_or}
use Rattle.prelude.specs.Range.{tabulate}
use Rattle.layout.specs.Record.{key_with}
use Rattle.index.specs.declared.Action.{Action}
use Rattle.index.specs.declared.Action.TheVariants.{Write}
use Rattle.index.specs.declared.Mode.TheVariants.{Insert}
use Rattle.calls.specs.declared.BasketItem.{BasketItem}

-- what a basket asks for one key; the value of a remove does not matter
pub record KeyChange : Type 0 where
  pub action : Action
  pub key : ℕ
  pub value : List ℕ

-- the high word of an item's key; layout 1 has none, and it is not read there
unfoldable pub high_in : (l high : ℕ) → ℕ
high_in l high = cond (eqb l 1) 0 high

unfoldable pub item_key : (l : ℕ) → BasketItem → ℕ
item_key l k = key_with k.low (high_in l k.high)

-- the item with number i, of the eight from 0 on; no basket has another
unfoldable pub item_at : List BasketItem → ℕ → BasketItem
item_at items i = get_or items i (record { action = (Write Insert); low = 0; high = 0; length = 0 })

-- the bytes of its value: item i's start at byte 80 × i
unfoldable pub item_value : (values : List ℕ) → (i size : ℕ) → List ℕ
item_value values i size = tabulate (λ k. get_or values (80 * i + k) 0) 0 size

unfoldable pub change_at : (l : ℕ) → List BasketItem → (values : List ℕ) → ℕ → KeyChange
change_at l items values i =
    record {
      action = (item_at items i).action;
      key = item_key l (item_at items i);
      value = item_value values i (item_at items i).length;
    }

-- what n items from item i on ask
unfoldable pub changes_from : (l : ℕ) → List BasketItem → (values : List ℕ) → (i n : ℕ) → List KeyChange
changes_from l items values i zero = []
changes_from l items values i (suc n) = change_at l items values i ∷ changes_from l items values (suc i) n

-- what a basket of so many keys asks
unfoldable pub changes_of : (l count : ℕ) → List BasketItem → (values : List ℕ) → List KeyChange
changes_of l count items values = changes_from l items values 0 count
