-- The content of a slot: what the map and the chains need of it.
use Rattle.std.specs.Prelude.{cond, List, ℕ, ◌+◌, eqb}
use Rattle.layout.specs.Line.{line_a, line_b}
use Rattle.layout.specs.Slot.{highest_whole_of, line_verdict}
use Rattle.layout.specs.Record.{kind_of, size_field, key_of, value_of}
use Rattle.layout.specs.declared.Verdict.{Verdict}
use Rattle.layout.specs.declared.Verdict.TheVariants.{Valid, Empty, Broken}
use Rattle.words.specs.Word.{word}

-- a broken slot with the highest version on a whole line of it, an empty slot, or a valid one: a put or a remove
pub data Content : Type 0 where
  broken : (highest_whole : ℕ) → Content
  empty : Content
  put_record : (version key : ℕ) → (value : List ℕ) → Content
  remove_record : (version key : ℕ) → Content

-- the record that these fields make: "kind 1 put, 2 remove". Any other kind counts as a put here, and recovery refuses
-- it with 22
unfoldable pub content_of_record : (kind version key : ℕ) → List ℕ → Content
content_of_record kind version key value = cond (eqb kind 2) (remove_record version key) (put_record version key value)

-- what a verdict leaves of lines A and B
unfoldable pub content_by : (l : ℕ) → (A B : ℕ → ℕ) → Verdict → Content
content_by l A B (Valid version) = content_of_record (kind_of (A (l + 1))) version (key_of l A) (value_of l A B)
content_by l A B Empty = empty
content_by l A B (Broken highest_whole) = broken highest_whole

-- what a slot with lines A and B holds
unfoldable pub content_of : (l : ℕ) → (A B : ℕ → ℕ) → Content
content_of l A B = content_by l A B (line_verdict A B)

-- what slot s holds, by the words of an image
unfoldable pub content : (l : ℕ) → (ℕ → ℕ) → ℕ → Content
content l m s = content_of l (line_a m s) (line_b m s)

-- the highest version on a whole line of slot s
unfoldable pub highest_whole : (ℕ → ℕ) → ℕ → ℕ
highest_whole m s = highest_whole_of (line_a m s) (line_b m s)

-- the same, by the content
unfoldable pub highest_whole_in : Content → ℕ
highest_whole_in (broken t) = t
highest_whole_in empty = 0
highest_whole_in (put_record version key value) = version
highest_whole_in (remove_record version key) = version

-- a table: what each slot holds
abbrev pub Table : Type 0
Table = ℕ → Content

-- the number in the kind word of slot s: how many records share its version, 0 for one. Document 02, A.7
abbrev pub size_field_in : (l : ℕ) → (ℕ → ℕ) → ℕ → ℕ
size_field_in l m s = size_field (line_a m s (l + 1))

-- what the slots of an image hold, by its bytes; void records (table/specs/Complete) are as any other here
abbrev pub contents_of : (l : ℕ) → (image : List ℕ) → Table
contents_of l image = content l (word image)

-- and the numbers in their kind words
abbrev pub size_fields_of : (l : ℕ) → (image : List ℕ) → ℕ → ℕ
size_fields_of l image = size_field_in l (word image)
