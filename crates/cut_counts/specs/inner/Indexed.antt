-- What the functions ask and leave of an image with the index that recovery built.
use Rattle.std.specs.Prelude.{◌≡◌, List, ℕ, length}
use Rattle.std.proofs.Math.Option.{some, none}
use Rattle.words.specs.Word.{word}
use Rattle.prelude.specs.Members.{Slot}
use Rattle.layout.specs.Size.{slots_in}
use Rattle.layout.specs.Line.{line_a, line_b}
use Rattle.layout.specs.Record.{value_of}
use Rattle.layout.specs.Fault.{fault_of}
use Rattle.table.specs.Table.{map_of, live_count}
use Rattle.table.specs.Complete.{table_of}
use Rattle.recovery.specs.Recover.{recover_fault, recovered_index}
use Rattle.cut_counts.specs.CutCount.{acceptance_fault}
use Rattle.cut_counts.specs.declared.Indexed.{Indexed}
use Rattle.cut_counts.specs.declared.Indexed.TheVariants.{Map, Nothing}

-- recovery accepts the image, and heads and next are its index
pub record OwnIndex (l : ℕ) (image heads next : List ℕ) : Type 0 where
  pub clear : recover_fault l image (length heads) (length next) ≡ 0
  pub heads_are : heads ≡ (recovered_index (table_of l image) (slots_in image) (length heads)).heads
  pub next_are : next ≡ (recovered_index (table_of l image) (slots_in image) (length heads)).next

-- and live is its live count
pub record Mapped (l : ℕ) (image heads next : List ℕ) (live : ℕ) : Type 0 where
  pub index : OwnIndex l image heads next
  pub live_is : live ≡ live_count (table_of l image) (slots_in image)

-- slot s holds the value of a key
pub record Keeps (l : ℕ) (image : List ℕ) (key s : ℕ) : Type 0 where
  pub slot : Slot (slots_in image) s
  pub value : map_of (table_of l image) (slots_in image) key ≡ some (value_of l (line_a (word image) s) (line_b (word image) s))
  pub sound : fault_of l (line_a (word image) s) (line_b (word image) s) ≡ 0

-- s is the slot that holds a key's value, 0 for none
pub record HeldIn (l : ℕ) (image : List ℕ) (key s : ℕ) : Type 0 where
  pub not-held : s ≡ 0 → map_of (table_of l image) (slots_in image) key ≡ none
  pub held : (s ≡ 0 → ⊥) → Keeps l image key s

-- heads and next are the index of the image where recovery accepts it
pub data IndexedBy (l : ℕ) (image heads next : List ℕ) : Indexed → Type 0 where
  is_map : {live : ℕ} → Mapped l image heads next live → IndexedBy l image heads next (Map live)
  no_map : {number : ℕ} → number ≡ acceptance_fault l image → (number ≡ 0 → ⊥) → IndexedBy l image heads next (Nothing number)
