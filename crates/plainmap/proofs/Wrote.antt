-- What a call does: it stores nothing, or it writes records and leaves an index. Assumes nothing.
use mathlib.Core.Path.{◌≡◌}
use mathlib.Core.Bool.{true}
use mathlib.Core.Option.{none}
use mathlib.Core.List.{List, [], ◌∷◌}
use Prim.Native.Nat.{ℕ, ◌+◌, ◌^◌, ◌<◌}
use lib.ListN.{length}
use Rattle.words.specs.Word.{word}
use Rattle.prelude.specs.Members.{All}
use Rattle.prelude.specs.Answer.{absent, refused}
use Rattle.prelude.proofs.defs.Answer.{is_refusal}
use Rattle.layout.specs.Size.{slots_in}
use Rattle.layout.specs.Content.{contents_of, size_fields_of}
use Rattle.stores.specs.Basket.{BasketRecord, basket_slots, basket_stores}
use Rattle.stores.specs.Cut.{LawfulRecord}
use Rattle.table.specs.Table.{map_of, live_count, next_version, is_held}
use Rattle.table.specs.Complete.{table_of, size_field_for}
use Rattle.table.proofs.defs.Basket.{Basket, HeldRemoved, puts_in, held_in, changes}
use Rattle.table.proofs.defs.Struck.{Struck, Finished}
use Rattle.table.proofs.defs.ReuseAfter.{BrokenTaken}
use Rattle.index.specs.Index.{Index, Chain, with_counts}
use Rattle.table.proofs.defs.Entries.{record_at}
use Rattle.calls.specs.Change.{changed}
use Rattle.calls.specs.Result.{CallResult, unchanged}
use Rattle.plainmap.specs.World.{World}
use Rattle.plainmap.specs.Plain.{Update, plain_step}
use Rattle.plainmap.specs.Claims.{slots_map}
use Rattle.plainmap.specs.Consistency.{IndexConsistent}

-- the world with image' that a call with this result leaves
abbrev pub world_with : (image' : List ℕ) → CallResult → World
world_with image' r = record { image = image'; index = r.index }

-- a sound index of this world, whatever its chains
pub data SomeSound (l : ℕ) (w : World) : Type 0 where
  some_sound : (chains : Chain → List ℕ) → IndexConsistent l w chains → SomeSound l w

-- the next version of an image
abbrev pub next_of : (l : ℕ) → (image : List ℕ) → ℕ
next_of l image = next_version (table_of l image) (slots_in image)

-- a call wrote these records, and left this index with a live count and the first slot taken
pub record WroteRecords (l : ℕ) (w : World) (es : List BasketRecord) (i : Index) (alive newest : ℕ) : Type 0 where
  pub lawful : All (LawfulRecord l (word w.image) (size_field_for (length es)) (next_of l w.image)) es
  pub small : next_of l w.image < 2 ^ 63
  pub basket :
      Basket (contents_of l w.image) (size_fields_of l w.image) (slots_in w.image) (next_of l w.image) (basket_slots es)
      (record_at (next_of l w.image) es)
  -- "A broken slot is always reused first"
  pub broken : BrokenTaken (contents_of l w.image) (slots_in w.image) (basket_slots es)
  -- a slot will be left that is not live
  pub room :
      live_count (contents_of l w.image) (slots_in w.image) + puts_in (basket_slots es) (record_at (next_of l w.image) es) <
      slots_in w.image + held_in (basket_slots es) (record_at (next_of l w.image) es) (map_of (contents_of l w.image) (slots_in w.image))
  -- only a held key is removed
  pub removes : HeldRemoved (basket_slots es) (record_at (next_of l w.image) es) (map_of (contents_of l w.image) (slots_in w.image))
  pub sound :
      (image' : List ℕ) → slots_in image' ≡ slots_in w.image
      → Struck (contents_of l w.image) (contents_of l image') (size_fields_of l w.image) (size_fields_of l image') (slots_in w.image) (basket_slots es)
      (record_at (next_of l w.image) es)
      → Finished (contents_of l image') (size_fields_of l image') (basket_slots es) (record_at (next_of l w.image) es)
      → SomeSound l (record { image = image'; index = with_counts i alive (w.index.state.version + 1) newest })

-- what a call does: it stores nothing and the plain map stays, or it writes records, which is the plain map's step
pub data Stepped (l : ℕ) (w : World) (us : List Update) (r : CallResult) : Type 0 where
  stored_none : r.stores ≡ [] → SomeSound l (world_with w.image r)
      → ((k : ℕ) → slots_map l w.image k ≡ plain_step us (is_refusal r.answer) (slots_map l w.image) k)
      → Stepped l w us r
  stored_records : (es : List BasketRecord) (i : Index) (alive newest : ℕ)
      → r.stores ≡ basket_stores l (word w.image) (size_field_for (length es)) (next_of l w.image) es
      → ((image' : List ℕ) → world_with image' r ≡
      record { image = image'; index = with_counts i alive (w.index.state.version + 1) newest })
      → WroteRecords l w es i alive newest
      → ((k : ℕ) → changes (basket_slots es) (record_at (next_of l w.image) es) (slots_map l w.image) k ≡
      plain_step us (is_refusal r.answer) (slots_map l w.image) k)
      → Stepped l w us r

-- the one record of a single call, for the first slot of reuse
abbrev pub one_record : World → (key kind : ℕ) → (value : List ℕ) → List BasketRecord
one_record w key kind value = record { slot = w.index.state.first; key = key; kind = kind; value = value } ∷ []

-- the ways a call goes that is to write a record of this kind and value, by its fault; the result is `r`
pub data Ran (l : ℕ) (w : World) (key kind : ℕ) (value : List ℕ) (fault : ℕ) (r : CallResult) : Type 0 where
  ran_refused : (fault ≡ 0 → ⊥) → (count : ℕ) → r ≡ unchanged (refused fault) w.index count → Ran l w key kind value fault r
  ran_absent : fault ≡ 0 → kind ≡ 2 → (count : ℕ) → r ≡ unchanged absent w.index count
      → map_of (table_of l w.image) (slots_in w.image) key ≡ none → Ran l w key kind value fault r
  ran_wrote : fault ≡ 0 → (i : Index) (alive count : ℕ) → r ≡ changed l w.image w.index.state w.index.state.first key kind value i alive count
      → WroteRecords l w (one_record w key kind value) i alive w.index.state.first
      → (kind ≡ 2 → is_held (map_of (table_of l w.image) (slots_in w.image) key) ≡ true) → Ran l w key kind value fault r
