-- Which slots a call may take. Document 02, A.7: "No call, single ones included, takes a slot of the highest valid
-- version, or a remove record while an older valid record of its key remains in the image the call is given, even in a
-- slot that the same call takes; it takes the first others in the reuse chain."
use Rattle.std.specs.Prelude.{◌≡◌, Bool, true, false, cond, not, ◌&&◌, List, ℕ, ◌<◌, eqb, ltb, take}
use Rattle.prelude.specs.Range.{any_of, greatest, count}
use Rattle.prelude.specs.Filter.{filter, any_in}
use Rattle.prelude.specs.Members.{Slot}
use Rattle.layout.specs.Content.{Content, broken, empty, put_record, remove_record, highest_whole_in, Table}
use Rattle.table.specs.Table.{is_record, key_in, spare}

-- the version of a valid slot, 0 for any other
unfoldable pub valid_version : Content → ℕ
valid_version c = cond (is_record c) (highest_whole_in c) 0

-- the highest valid version, 0 if no slot is valid
unfoldable pub highest_valid : Table → (n : ℕ) → ℕ
highest_valid f n = greatest (λ s. valid_version (f s)) n

-- slot s is valid and has the highest valid version, where any slot is valid
abbrev pub IsNewest : Table → (n s : ℕ) → Type 0
IsNewest f n s = 0 < highest_valid f n → Slot n s × (valid_version (f s) ≡ highest_valid f n)

unfoldable pub is_remove : Content → Bool
is_remove (broken top) = false
is_remove empty = false
is_remove (put_record version key value) = false
is_remove (remove_record version key) = true

-- slot t has an older valid record of the key of slot s
unfoldable pub older : Table → (s t : ℕ) → Bool
older f s t = is_record (f t) && (eqb (key_in (f t)) (key_in (f s)) && ltb (highest_whole_in (f t)) (highest_whole_in (f s)))

-- may a slot that holds c be taken? A broken or an empty one may; a record only below version `top`, and a remove
-- record only where no older valid record of its key remains
unfoldable pub takeable_if : (top : ℕ) → (remains : Bool) → Content → Bool
takeable_if top remains c = cond (is_record c) (ltb (highest_whole_in c) top && not (is_remove c && remains)) true

-- may slot s be taken?
unfoldable pub may_take : Table → (n s : ℕ) → Bool
may_take f n s = takeable_if (highest_valid f n) (any_of (older f s) 1 n) (f s)

-- the same after these slots were taken, by them alone: an older record of the slot's key is looked for only in them.
-- Along the reuse chain of the image's own index that is the same test: where older records of a remove record's key
-- remain, the oldest of them stands before it there, may be taken, and so is among them
unfoldable pub may_take_after : Table → (n : ℕ) → (chosen : List ℕ) → (s : ℕ) → Bool
may_take_after f n chosen s = takeable_if (highest_valid f n) (any_in (older f s) chosen) (f s)

-- "the first others in the reuse chain": the first m slots of a chain that may be taken
unfoldable pub taken_of : Table → (n m : ℕ) → (chain : List ℕ) → List ℕ
taken_of f n m chain = take m (filter (may_take f n) chain)

-- how many spare slots may be taken
unfoldable pub takeable_count : Table → (n : ℕ) → ℕ
takeable_count f n = count (λ t. spare f n t && may_take f n t) n
