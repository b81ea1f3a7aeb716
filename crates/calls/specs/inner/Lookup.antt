-- What a call reads before it writes: its refusal, or what following the key's chain found; and what its writes need.
use Rattle.std.specs.Prelude.{◌≡◌, Bool, List, ℕ, ◌+◌, ◌*◌, ◌^◌, ◌≤◌, ◌<◌, length}
use Rattle.prelude.specs.Refusal.{unless_refused}
use Rattle.layout.specs.Record.{limit}
use Rattle.layout.specs.Header.{lent_fault}
use Rattle.layout.specs.inner.Inside.{SlotInside}
use Rattle.index.specs.Index.{Index, head_of}
use Rattle.index.specs.Walk.{search}
use Rattle.index.specs.inner.Parts.{WritesInside, PlaceInside}
use Rattle.index.specs.inner.Lookup.{lookup_by}
use Rattle.index.specs.declared.State.{State}
use Rattle.index.specs.declared.Mode.{Mode}
use Rattle.index.specs.declared.Found.{Found}
use Rattle.index.specs.declared.Found.TheVariants.{At, Missing, BadChain}
use Rattle.index.specs.declared.Place.{Place}
use Rattle.index.specs.declared.Place.TheVariants.{Held, NotHeld}
use Rattle.index.specs.declared.Lookup.{Lookup}
use Rattle.index.specs.declared.Lookup.TheVariants.{Refused, Accepted}
use Rattle.calls.specs.Change.{write_lent_fault, write_fault_by, remove_fault_by}
use Rattle.calls.specs.Get.{slot_length, get_fault}

-- the lookup of a call by what following the key's chain found; `lent` is the refusal before it is followed: no slot is
-- compared then
unfoldable pub lookup_of : (fault lent : ℕ) → Found → Lookup
lookup_of fault lent found = unless_refused lent (lookup_by fault found) (Refused fault 0)

-- r is that lookup, and the writes that it leads to have what they need
pub record LooksUp (fault lent : ℕ) (found : Found) (Ready : Lookup → Type 0) (r : Lookup) : Type 0 where
  pub is : r ≡ lookup_of fault lent found
  pub ready : Ready r

-- ---- insert, replace and remove

-- the numbers by which a call writes lie inside the image and the index
pub record Writable (image heads next : List ℕ) (s : State) (key prev old : ℕ) : Type 0 where
  pub index : WritesInside heads next s (head_of key (length heads)) prev old
  pub slot_fits : s.first < 65536
  pub slot_in : 128 * (s.first + 1) ≤ length image

-- what the writes of an insert or a replace need, for a key at this place; size is the value's length
pub record AcceptedAt (l : ℕ) (image heads next : List ℕ) (s : State) (key size : ℕ) (place : Place) : Type 0 where
  pub inside : PlaceInside heads next s (head_of key (length heads)) place
  pub some_head : 1 ≤ length heads
  pub recordable : (size ≤ limit l) × (s.version < 2 ^ 63) × (s.first < 65536) × (128 * (s.first + 1) ≤ length image)

-- an insert or a replace can be carried out
abbrev pub WriteReady : (l : ℕ) → (image heads next : List ℕ) → State → (key size : ℕ) → Lookup → Type 0
WriteReady l image heads next s key size (Refused number compared) = Unit
WriteReady l image heads next s key size (Accepted place compared) = AcceptedAt l image heads next s key size place

-- and so can a remove
abbrev pub RemoveReady : (image heads next : List ℕ) → State → (key : ℕ) → Lookup → Type 0
RemoveReady image heads next s key (Refused number compared) = Unit
RemoveReady image heads next s key (Accepted (Held old prev) compared) = Writable image heads next s key prev old × (0 < s.live)
RemoveReady image heads next s key (Accepted (NotHeld prev) compared) = Unit

-- what the lookups of these calls answer
abbrev pub WriteLookup : (own : Bool) → (l : ℕ) → (image : List ℕ) → Index → Mode → (key size : ℕ) → Lookup → Type 0
WriteLookup own l image i mode key size r =
    LooksUp (write_fault_by own l image i mode key size) (write_lent_fault l image (length i.heads) (length i.next) size)
    (search l image i.heads i.next key) (WriteReady l image i.heads i.next i.state key size) r

abbrev pub RemoveLookup : (own : Bool) → (l : ℕ) → (image : List ℕ) → Index → (key : ℕ) → Lookup → Type 0
RemoveLookup own l image i key r =
    LooksUp (remove_fault_by own l image i key) (lent_fault l image (length i.heads) (length i.next))
    (search l image i.heads i.next key) (RemoveReady image i.heads i.next i.state key) r

-- ---- get

-- the slot that was found is inside the image
abbrev pub FoundInside : (l : ℕ) → (image : List ℕ) → Found → Type 0
FoundInside l image (At slot prev compared) = SlotInside image l slot
FoundInside l image (Missing prev compared) = Unit
FoundInside l image BadChain = Unit

-- the slot of a held key is inside the image, and its value fits an output of this size
abbrev pub GetReady : (l : ℕ) → (image : List ℕ) → (size : ℕ) → Lookup → Type 0
GetReady l image size (Refused number compared) = Unit
GetReady l image size (Accepted (Held slot prev) compared) =
    SlotInside image l slot × (slot_length l image slot ≤ limit l) × (slot_length l image slot ≤ size)
GetReady l image size (Accepted (NotHeld prev) compared) = Unit

-- what the lookup of get answers
abbrev pub GetLookup : (l : ℕ) → (image heads next : List ℕ) → (key size : ℕ) → Lookup → Type 0
GetLookup l image heads next key size r =
    LooksUp (get_fault l image heads next key size) (lent_fault l image (length heads) (length next))
    (search l image heads next key) (GetReady l image size) r
