-- Which versions are complete, which records are void, and the table by which recovery goes. Document 02, A.7. What the
-- slots hold is two functions of the slot number: f, the contents, and num, the numbers in the kind words.
use Rattle.std.specs.Prelude.{◌≡◌, Bool, false, cond, ◌&&◌, ℕ, zero, suc, eqb, ltb, leb, List}
use Rattle.prelude.specs.Range.{any_of, greatest, count}
use Rattle.prelude.specs.Members.{Slot}
use Rattle.layout.specs.Size.{slots_in}
use Rattle.layout.specs.Content.{broken, highest_whole_in, Table, contents_of, size_fields_of}
use Rattle.table.specs.Table.{is_record}

-- "bits 16 to 23 of the kind word hold their number": of each slot; read of valid slots alone
abbrev pub SizeFields : Type 0
SizeFields = ℕ → ℕ

-- "(0 meaning one)": how many records a number says
unfoldable pub basket_size : ℕ → ℕ
basket_size number = cond (eqb number 0) 1 number

-- "a single record, or a basket of one, has 0 there": the number of a basket of m keys
unfoldable pub size_field_for : ℕ → ℕ
size_field_for m = cond (eqb m 1) 0 m

-- slot t is valid and has version v
unfoldable pub has_version : Table → (v t : ℕ) → Bool
has_version f v t = is_record (f t) && eqb (highest_whole_in (f t)) v

-- how many valid slots share version v
unfoldable pub sharers : Table → (n v : ℕ) → ℕ
sharers f n v = count (has_version f v) n

-- slot s is valid and there are not "fewer valid records than it says" of its version
unfoldable pub complete : Table → SizeFields → (n s : ℕ) → Bool
complete f num n s = is_record (f s) && leb (basket_size (num s)) (sharers f n (highest_whole_in (f s)))

-- the version of slot s where it is complete, else 0
unfoldable pub version_if_complete : Table → SizeFields → (n s : ℕ) → ℕ
version_if_complete f num n s = cond (complete f num n s) (highest_whole_in (f s)) 0

-- "The highest version among valid slots is judged by its number: with fewer valid records than it says, all of them
-- are void and the next version down is judged in turn": judging ends at the highest complete version, 0 if there is
-- none
unfoldable pub highest_complete : Table → SizeFields → (n : ℕ) → ℕ
highest_complete f num n = greatest (version_if_complete f num n) n

-- so the valid slots above it are void
unfoldable pub is_void : Table → SizeFields → (n s : ℕ) → Bool
is_void f num n s = is_record (f s) && ltb (highest_complete f num n) (highest_whole_in (f s))

-- "A void slot stands with the broken ones": the settled table, by which recovery finds the live slots, the map and the
-- chains. The lines of a void slot are whole, so its version stays the highest on a whole line
unfoldable pub settled : Table → SizeFields → (n : ℕ) → Table
settled f num n s = cond (is_void f num n s) (broken (highest_whole_in (f s))) (f s)

-- the table of an image: its settled table
abbrev pub table_of : (l : ℕ) → (image : List ℕ) → Table
table_of l image = settled (contents_of l image) (size_fields_of l image) (slots_in image)

-- no slot is void
abbrev pub NoneVoid : Table → SizeFields → (n : ℕ) → Type 0
NoneVoid f num n = (t : ℕ) → Slot n t → is_void f num n t ≡ false

-- ---- the same word for word; table/proofs/Judged `judged_highest` says that it gives `highest_complete`

-- version v is complete
unfoldable pub complete_at : Table → SizeFields → (n v : ℕ) → Bool
complete_at f num n v = any_of (λ s. has_version f v s && complete f num n s) 1 n

-- the next valid version below v, 0 if there is none
unfoldable pub next_down : Table → (n v : ℕ) → ℕ
next_down f n v = greatest (λ s. cond (is_record (f s) && ltb (highest_whole_in (f s)) v) (highest_whole_in (f s)) 0) n

-- "The highest version among valid slots is judged .. and the next version down is judged in turn": from v on, at most
-- `turns` times
unfoldable pub judged : Table → SizeFields → (n turns v : ℕ) → ℕ
judged f num n zero v = 0
judged f num n (suc turns) v = cond (eqb v 0) 0 (cond (complete_at f num n v) v (judged f num n turns (next_down f n v)))
