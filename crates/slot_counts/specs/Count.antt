-- How many slots of an accepted image are of each class. Document 02, A.8: "For an accepted image support wants a
-- report of live slots, hidden puts, remove records, void, broken and empty slots. Each is counted by its definition,
-- and the six add up to N."
use Rattle.std.specs.Prelude.{◌≡◌, Bool, not, ◌&&◌, List, [], ◌∷◌, ℕ, ◌+◌, length}
use Rattle.prelude.specs.Refusal.{unless_refused}
use Rattle.prelude.specs.Answer.{Answer, gives, refused}
use Rattle.prelude.specs.Range.{count}
use Rattle.layout.specs.Size.{slots_in}
use Rattle.layout.specs.Content.{Table, contents_of, size_fields_of}
use Rattle.table.specs.Table.{live, live_count, broken_count}
use Rattle.table.specs.Class.{is_empty, is_put}
use Rattle.table.specs.Takeable.{is_remove}
use Rattle.table.specs.Complete.{SizeFields, is_void, settled}
use Rattle.recovery.specs.Recover.{recover_fault, recover_result}
use Rattle.slot_counts.specs.declared.SlotCounts.{SlotCounts}
use Rattle.slot_counts.specs.declared.CountAnswer.{CountAnswer}
use Rattle.slot_counts.specs.declared.CountAnswer.TheVariants.{Counted, Refused}
use Rattle.index.specs.Index.{Lists}

-- a put that is not live: a later record of its key hides it. f is a settled table, in which void records do not stand
unfoldable pub hidden_put : Table → (n s : ℕ) → Bool
hidden_put f n s = is_put (f s) && not (live f n s)

-- how many of the slots 1 to n are of each class; f is their contents, num the numbers in their kind words
unfoldable pub counts_of : Table → SizeFields → (n : ℕ) → SlotCounts
counts_of f num n =
    record {
      -- "Such a deciding put is live" (document 01)
      live = live_count (settled f num n) n;
      hidden = count (hidden_put (settled f num n) n) n;
      -- whether it decides its key or is hidden itself
      removes = count (λ s. is_remove (settled f num n s)) n;
      -- "with fewer valid records than it says, all of them are void" (A.7)
      void = count (is_void f num n) n;
      -- "Every other slot is broken" (document 01), and a void slot is not: its lines are whole
      broken = broken_count f n;
      -- "It is empty when both are whole with version 0" (document 01)
      empty = count (λ s. is_empty (f s)) n;
    }

-- and of the slots of an image
unfoldable pub counts_in : (l : ℕ) → (image : List ℕ) → SlotCounts
counts_in l image = counts_of (contents_of l image) (size_fields_of l image) (slots_in image)

-- "and the six add up to N"
abbrev pub AddUp : SlotCounts → (n : ℕ) → Type 0
AddUp c n = c.live + c.hidden + c.removes + c.void + c.broken + c.empty ≡ n

-- of every image, accepted or not
abbrev pub SixAddUp : Type 0
SixAddUp = (l : ℕ) (image : List ℕ) → AddUp (counts_in l image) (slots_in image)

-- ---- the call

-- its answer, the slot that a refusal names (0 for none), and heads and next as it leaves them
pub record CountResult : Type 0 where
  pub answer : Answer
  pub slot : ℕ
  pub lists : Lists

-- the answer's values: "the six in this order"
unfoldable pub count_values : SlotCounts → List ℕ
count_values c = c.live ∷ c.hidden ∷ c.removes ∷ c.void ∷ c.broken ∷ c.empty ∷ []

-- what a call with this answer left
unfoldable pub count_end : CountAnswer → (heads next : List ℕ) → CountResult
count_end (Counted c) heads next = record { answer = gives (count_values c); slot = 0; lists = record { heads = heads; next = next } }
count_end (Refused number slot) heads next = record { answer = refused number; slot = slot; lists = record { heads = heads; next = next } }

-- the six, or recovery's refusal
unfoldable pub count_says : (l : ℕ) → (image : List ℕ) → (heads next : ℕ) → Answer
count_says l image heads next =
    unless_refused (recover_fault l image heads next) (gives (count_values (counts_in l image))) (refused (recover_fault l image heads next))

-- with the slot, heads and next of recovery
unfoldable pub count_result : (l : ℕ) → (image heads next : List ℕ) → CountResult
count_result l image heads next =
    record {
      answer = count_says l image (length heads) (length next);
      slot = (recover_result l image heads next).slot;
      lists = record { heads = (recover_result l image heads next).index.heads; next = (recover_result l image heads next).index.next };
    }
