-- What the functions that count ask and leave.
use Rattle.std.specs.Prelude.{◌≡◌, ◌&&◌, List, ℕ, ◌+◌, ◌*◌, ◌≤◌, length}
use Rattle.words.specs.Word.{word}
use Rattle.prelude.specs.Range.{count}
use Rattle.layout.specs.Size.{slots_in}
use Rattle.layout.specs.Record.{Layout}
use Rattle.layout.specs.Content.{Table, contents_of}
use Rattle.table.specs.Table.{live_count}
use Rattle.table.specs.Takeable.{is_remove}
use Rattle.table.specs.Complete.{SizeFields, is_void, table_of}
use Rattle.stores.specs.Invalidation.{invalidating_stores}
use Rattle.recovery.specs.Invalidation.{void_slots, invalidations_of}
use Rattle.recovery.specs.inner.Scan.{Classed}
use Rattle.recovery.specs.declared.Invalidations.{Invalidations}
use Rattle.recovery.specs.declared.Classes.{Classes}

-- how many void records are removes
unfoldable pub void_removes : Table → SizeFields → (n : ℕ) → ℕ
void_removes f num n = count (λ s. is_void f num n s && is_remove (f s)) n

-- these stores open the void slots of an image that has slots, and they are at most eight
pub record OpensVoid (image : List ℕ) (l : ℕ) (o : Invalidations) : Type 0 where
  pub layout : Layout l
  pub image-size : length image ≡ 128 * (slots_in image + 1)
  pub opened : o ≡ invalidations_of (invalidating_stores (word image) (void_slots l (word image) (slots_in image)))
  pub few : length (void_slots l (word image) (slots_in image)) ≤ 8

-- what recovery tells of an accepted image: the classes of its slots, its live count, and the stores that open its void
-- slots
pub record Countable (image : List ℕ) (l : ℕ) (all : Classes) (live : ℕ) (o : Invalidations) : Type 0 where
  pub classed : Classed (contents_of l image) (slots_in image) all
  pub live_is : live ≡ live_count (table_of l image) (slots_in image)
  pub opens : OpensVoid image l o
