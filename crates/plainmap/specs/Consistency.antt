-- An index that is the image's own. Document 01, "The index", and the order of reuse that keeps a withdrawn order from
-- returning.
use Rattle.std.specs.Prelude.{◌≡◌, List, ◌∷◌, ℕ, length}
use Rattle.table.specs.Table.{live_count, next_version}
use Rattle.table.specs.Reuse.{OlderFirst, HighestLast, BrokenFirst}
use Rattle.table.specs.Takeable.{IsNewest}
use Rattle.index.specs.Index.{Chain, reuse}
use Rattle.index.specs.Linked.{ChainsPartition}
use Rattle.recovery.specs.Recover.{place_of}
use Rattle.plainmap.specs.World.{World}
use Rattle.layout.specs.Size.{slots_in}
use Rattle.layout.specs.Content.{contents_of, size_fields_of}
use Rattle.table.specs.Complete.{table_of, NoneVoid}
use Rattle.plainmap.specs.Accepted.{RightSize, Accepted}
use Rattle.plainmap.specs.Plain.{PlainMap}
use Rattle.plainmap.specs.Claims.{slots_map}

-- a list that is not empty
pub data Starts (xs : List ℕ) : Type 0 where
  starts : (s : ℕ) → (rest : List ℕ) → xs ≡ s ∷ rest → Starts xs

-- w's index, with these chains, is its image's own
pub record IndexConsistent (l : ℕ) (w : World) (chains : Chain → List ℕ) : Type 0 where
  pub size : RightSize w.image w.index.heads w.index.next
  -- along the links go `chains`; each slot stands in just one of them and once: a live slot in that of its key's head,
  -- any other in reuse
  pub index :
      ChainsPartition (slots_in w.image) (length w.index.heads) (place_of (table_of l w.image) (slots_in w.image) (length w.index.heads))
      w.index chains
  -- in reuse no older record of its key stands after a remove record
  pub older : OlderFirst (table_of l w.image) (chains reuse)
  -- its first slot is of the highest valid version only where all are
  pub highest : HighestLast (table_of l w.image) (slots_in w.image) (chains reuse)
  -- document 02, A.6: "A broken slot is always reused first"
  pub broken : BrokenFirst (table_of l w.image) (chains reuse)
  -- reuse is not empty
  pub some_spare : Starts (chains reuse)
  pub live-count : w.index.state.live ≡ live_count (table_of l w.image) (slots_in w.image)
  pub next-version : w.index.state.version ≡ next_version (table_of l w.image) (slots_in w.image)
  -- the state names a slot of the highest valid version
  pub newest : IsNewest (table_of l w.image) (slots_in w.image) w.index.state.newest

-- the image is accepted and no record in it is void, the index is its own, and the map of its slots is m
pub record Refines (l : ℕ) (w : World) (m : PlainMap) : Type 0 where
  pub accepted : Accepted l w.image
  -- recovery's invalidating stores "are played and fenced before any other call"
  pub none_void : NoneVoid (contents_of l w.image) (size_fields_of l w.image) (slots_in w.image)
  pub chains : Chain → List ℕ
  pub consistent : IndexConsistent l w chains
  pub map : (k : ℕ) → slots_map l w.image k ≡ m k
