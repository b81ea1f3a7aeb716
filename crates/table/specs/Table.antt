-- The table of an image, f : what each of the slots 1 to n holds. Document 01, "Which record counts" and "How a call
-- writes".
use Rattle.std.specs.Prelude.{Bool, true, false, cond, not, List, [], ◌∷◌, ℕ, zero, suc, eqb, ltb}
use Rattle.std.proofs.Math.Option.{Option, some, none}
use Rattle.prelude.specs.Range.{greatest, topmost, count}
use Rattle.layout.specs.Content.{Content, broken, empty, put_record, remove_record, highest_whole_in, Table}

-- is the slot valid?
unfoldable pub is_record : Content → Bool
is_record (broken top) = false
is_record empty = false
is_record (put_record version key value) = true
is_record (remove_record version key) = true

-- "Every other slot is broken"
unfoldable pub is_broken : Content → Bool
is_broken (broken top) = true
is_broken empty = false
is_broken (put_record version key value) = false
is_broken (remove_record version key) = false

-- the key of a record; 0 for any other content
unfoldable pub key_in : Content → ℕ
key_in (broken top) = 0
key_in empty = 0
key_in (put_record version key value) = key
key_in (remove_record version key) = key

-- one more than the version of a record of key k; 0 for any other content
unfoldable pub rank_for_key : (k : ℕ) → Content → ℕ
rank_for_key k (broken top) = 0
rank_for_key k empty = 0
rank_for_key k (put_record version key value) = cond (eqb key k) (suc version) 0
rank_for_key k (remove_record version key) = cond (eqb key k) (suc version) 0

-- "The next version is one more than the highest version on any whole line of slots 1 to N, lines of broken slots
-- included; with no line whole it is 1"
unfoldable pub next_version : Table → (n : ℕ) → ℕ
next_version f n = suc (greatest (λ s. highest_whole_in (f s)) n)

-- "For each key the valid slot with the greatest version decides": that slot, 0 if there is none
unfoldable pub decider : Table → (n k : ℕ) → ℕ
decider f n k = topmost (λ s. rank_for_key k (f s)) n

-- that slot and its version, for a key that is held
unfoldable pub holder : Table → (n k : ℕ) → List ℕ
holder f n k = decider f n k ∷ highest_whole_in (f (decider f n k)) ∷ []

-- "a put gives the value, a remove means absent"
unfoldable pub value_in : Content → Option (List ℕ)
value_in (broken top) = none
value_in empty = none
value_in (put_record version key value) = some value
value_in (remove_record version key) = none

-- the value in slot s; none for 0, which `decider` gives where there is none
unfoldable pub value_at : Table → ℕ → Option (List ℕ)
value_at f zero = none
value_at f (suc s) = value_in (f (suc s))

-- the map of the slots: each key's value, by the slot that decides it
unfoldable pub map_of : Table → (n k : ℕ) → Option (List ℕ)
map_of f n k = value_at f (decider f n k)

-- slot s, with this content, is a put that decides its key
unfoldable pub deciding_put : Table → (n s : ℕ) → Content → Bool
deciding_put f n s (broken top) = false
deciding_put f n s empty = false
deciding_put f n s (put_record version key value) = eqb (decider f n key) s
deciding_put f n s (remove_record version key) = false

-- "Such a deciding put is live; all other slots are spare"
unfoldable pub live : Table → (n s : ℕ) → Bool
live f n s = deciding_put f n s (f s)

-- and spare is every other slot
unfoldable pub spare : Table → (n s : ℕ) → Bool
spare f n s = not (live f n s)

-- how many of the slots 1 to n are live
unfoldable pub live_count : Table → (n : ℕ) → ℕ
live_count f n = count (live f n) n

-- how many of the slots 1 to n are broken
unfoldable pub broken_count : Table → (n : ℕ) → ℕ
broken_count f n = count (λ s. is_broken (f s)) n

-- document 02, A.7: "A void slot stands with the broken ones, in the reuse chain and in A.6's limit, now eight
-- together"
unfoldable pub broken_limit : ℕ
broken_limit = 8

-- 25: more than eight slots are broken. Recovery asks it of the settled table, in which void slots are broken
unfoldable pub many_broken : Table → (n : ℕ) → Bool
many_broken f n = ltb broken_limit (broken_count f n)

-- "8 when all N slots are live"
unfoldable pub all_live : Table → (n : ℕ) → Bool
all_live f n = eqb (live_count f n) n

-- is there a value?
unfoldable pub is_held : Option (List ℕ) → Bool
is_held none = false
is_held (some value) = true
