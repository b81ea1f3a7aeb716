-- Room on a set that grew from a formatted image. Document 02, A.7: "A single insert on a set grown from a formatted
-- image meets 28 only when one slot is left that holds no open key".
use Rattle.std.specs.Prelude.{◌≡◌, false, ℕ, ◌+◌, ◌≤◌, ◌<◌, length}
use Rattle.layout.specs.Size.{slots_in}
use Rattle.layout.specs.Record.{limit}
use Rattle.table.specs.Complete.{table_of}
use Rattle.table.specs.Table.{live_count, is_held}
use Rattle.table.specs.Takeable.{takeable_count}
use Rattle.index.specs.declared.Mode.TheVariants.{Insert, Replace}
use Rattle.plainmap.specs.World.{World, Call, write, remove, get, locate}
use Rattle.plainmap.specs.Plain.{PlainMap}

-- one slot is left that holds no open key
abbrev pub OneLeft : (l : ℕ) → World → Type 0
OneLeft l w = live_count (table_of l w.image) (slots_in w.image) + 1 ≡ slots_in w.image

-- some spare slot may be taken
abbrev pub SomeTakeable : (l : ℕ) → World → Type 0
SomeTakeable l w = 0 < takeable_count (table_of l w.image) (slots_in w.image)

-- an insert that neither 10 nor 20 refuses, and no other call
abbrev pub InsertsNew : (l : ℕ) → PlainMap → Call → Type 0
InsertsNew l m (write Insert key value) = (length value ≤ limit l) × (is_held (m key) ≡ false)
InsertsNew l m (write Replace key value) = ⊥
InsertsNew l m (remove key) = ⊥
InsertsNew l m (get key out) = ⊥
InsertsNew l m (locate key) = ⊥

-- 28 exactly where a new key is inserted and one slot is left; `fault` is the number that is due or that was answered
pub record RoomCorrect (l : ℕ) (w : World) (Inserts : Type 0) (fault : ℕ) : Type 0 where
  pub met : Inserts → OneLeft l w → fault ≡ 28
  pub only_new : fault ≡ 28 → Inserts
  pub only_left : fault ≡ 28 → OneLeft l w
