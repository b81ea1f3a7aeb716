-- The 16 stores of a record for slot s, in layout l. Document 01, "How a call writes". `number` is that of the records
-- which share the version, 0 for one alone.
use Rattle.std.specs.Prelude.{cond, List, [], ◌∷◌, ◌++◌, ℕ, zero, suc, ◌+◌, ◌-◌, ◌*◌, ◌/◌, eqb, ltb, length}
use Rattle.words.specs.Word.{word}
use Rattle.layout.specs.Line.{line, first_word, last_word_of}
use Rattle.layout.specs.Record.{key_word, kind_word, limit, value_place}
use Rattle.stores.specs.Store.{Store}

-- the words of a line that is written over one with this stamp: the mark, six words of the body, and the stamp
unfoldable pub marked : (stamp version : ℕ) → (body : ℕ → ℕ) → ℕ → ℕ
marked stamp version body i = cond (eqb i 0) (first_word stamp) (cond (eqb i 7) (last_word_of stamp version) (body i))

-- word p of a slot that has the first n words of the value at their places, and 0 elsewhere
unfoldable pub placed_word : (l : ℕ) → (value : List ℕ) → (n p : ℕ) → ℕ
placed_word l value zero p = 0
placed_word l value (suc n) p = cond (eqb p (value_place l n)) (word value n) (placed_word l value n p)

-- words 1 to 6 of line A: the key, the kind word and the front of the value. "Value bytes past the length are zero"
unfoldable pub body_a : (l key kind number : ℕ) → List ℕ → ℕ → ℕ
body_a l key kind number value i =
    cond (ltb i (l + 1)) (key_word key (i - 1))
    (cond (eqb i (l + 1)) (kind_word kind (length value) number) (placed_word l value (limit l / 8) i))

-- words 1 to 6 of line B: the rest of the value
unfoldable pub body_b : (l : ℕ) → List ℕ → ℕ → ℕ
body_b l value i = placed_word l value (limit l / 8) (8 + i)

-- all eight words of line A, over a line with this stamp
abbrev pub new_a : (l stamp key kind number : ℕ) → List ℕ → (version : ℕ) → ℕ → ℕ
new_a l stamp key kind number value version = marked stamp version (body_a l key kind number value)

-- and of line B
abbrev pub new_b : (l stamp : ℕ) → List ℕ → (version : ℕ) → ℕ → ℕ
new_b l stamp value version = marked stamp version (body_b l value)

-- the stores of words base + k up to base + k + n - 1, in order
unfoldable pub run : (base : ℕ) → (words : ℕ → ℕ) → (k n : ℕ) → List Store
run base words k zero = []
run base words k (suc n) = record { word = base + k; value = words k } ∷ run base words (suc k) n

-- the stores of words 0 to 7 of line n, in order
unfoldable pub line_stores : (n : ℕ) → (words : ℕ → ℕ) → List Store
line_stores n words = run (8 * n) words 0 8

-- "eight for line A, then eight for line B, words 0 to 7 in order"; the close bits are those that stand in the words m
unfoldable pub record_stores : (l : ℕ) → (m : ℕ → ℕ) → (s key kind number : ℕ) → List ℕ → (version : ℕ) → List Store
record_stores l m s key kind number value version =
    line_stores (2 * s) (new_a l (line m (2 * s) 7) key kind number value version) ++
    line_stores (2 * s + 1) (new_b l (line m (2 * s + 1) 7) value version)
