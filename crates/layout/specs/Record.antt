-- The fields of a record, for layout l (1 in document 01). Document 01, "Lines, slots and words": "In line A, word 1 is
-- the key, word 2 is kind + 256 × length (kind 1 put, 2 remove), words 3 to 6 are value bytes 0 to 31. In line B, words
-- 1 to 6 are value bytes 32 to 79." Layout l has l key words from word 1 on, the kind word at word l + 1, and the value
-- from word l + 2 on. Document 02, A.11: "Layout 2 has the key in words 1 and 2 of line A, the kind word in word 3, and
-- a value of at most 72 bytes from word 4 on."
use Rattle.std.specs.Prelude.{cond, List, ℕ, zero, suc, ◌+◌, ◌-◌, ◌*◌, ◌/◌, ◌%◌, ◌^◌, ◌≤◌, ltb}
use Rattle.prelude.specs.Range.{tabulate}

-- the layout is 1 or 2
pub record Layout (l : ℕ) : Type 0 where
  pub low : 1 ≤ l
  pub high : l ≤ 2

-- the number whose words, low word first, are n words of A from word i on
unfoldable pub key_from : (ℕ → ℕ) → (i n : ℕ) → ℕ
key_from A i zero = 0
key_from A i (suc n) = A i + 2 ^ 64 * key_from A (suc i) n

-- the key in line A: l words from word 1 on
unfoldable pub key_of : (l : ℕ) → (A : ℕ → ℕ) → ℕ
key_of l A = key_from A 1 l

-- a key of two words; the high one is 0 in layout 1
abbrev pub key_with : (low high : ℕ) → ℕ
key_with low high = low + 2 ^ 64 * high

-- word i of a key, low word first
abbrev pub key_word : (key i : ℕ) → ℕ
key_word key i = key / (2 ^ 64) ^ i % 2 ^ 64

-- the kind word: "kind + 256 × length"; document 02, A.7: "bits 16 to 23 of the kind word hold their number"
abbrev pub kind_word : (kind size number : ℕ) → ℕ
kind_word kind size number = kind + 256 * size + 65536 * number

-- the kind in a kind word: its low byte
abbrev pub kind_of : ℕ → ℕ
kind_of w = w % 256

-- the length: the byte above the kind
abbrev pub length_of : ℕ → ℕ
length_of w = w / 256 % 256

-- and the number: the byte above the length, of how many records share the version
abbrev pub size_field : ℕ → ℕ
size_field w = w / 65536 % 256

-- the greatest length of a value: 80 in layout 1; "Limits of 80 read 72" in layout 2
abbrev pub limit : ℕ → ℕ
limit l = 88 - 8 * l

-- where word i of a value stands among a slot's 16 words, line A's before line B's: from word l + 2 of line A on, and
-- after its word 6 from word 1 of line B on
unfoldable pub value_place : (l i : ℕ) → ℕ
value_place l i = cond (ltb (l + 2 + i) 7) (l + 2 + i) (l + 4 + i)

-- word p of the slot with lines A and B
unfoldable pub slot_word : (A B : ℕ → ℕ) → ℕ → ℕ
slot_word A B p = cond (ltb p 8) (A p) (B (p - 8))

-- word i of the value
unfoldable pub value_word : (l : ℕ) → (A B : ℕ → ℕ) → ℕ → ℕ
value_word l A B i = slot_word A B (value_place l i)

-- byte k of the value
unfoldable pub value_byte : (l : ℕ) → (A B : ℕ → ℕ) → ℕ → ℕ
value_byte l A B k = value_word l A B (k / 8) / 256 ^ (k % 8) % 256

-- the first n bytes of the value
unfoldable pub value_front : (l : ℕ) → (A B : ℕ → ℕ) → ℕ → List ℕ
value_front l A B n = tabulate (value_byte l A B) 0 n

-- the value: as many bytes as the length says
unfoldable pub value_of : (l : ℕ) → (A B : ℕ → ℕ) → List ℕ
value_of l A B = value_front l A B (length_of (A (l + 1)))
