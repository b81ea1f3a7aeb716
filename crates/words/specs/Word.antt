-- Words in a list of bytes. Document 01: "A word is 8 bytes, low byte first."
use Rattle.std.specs.Prelude.{List, ℕ, zero, suc, ◌+◌, ◌*◌, ◌/◌, ◌%◌, ◌<◌, get_or, set}

-- the elements are bytes
abbrev pub AreBytes : List ℕ → Type 0
AreBytes s = (k : ℕ) → get_or s k 0 < 256

-- the number with these bytes, low byte first
abbrev pub joined : ℕ → ℕ → ℕ → ℕ → ℕ → ℕ → ℕ → ℕ → ℕ
joined a b c d e f g h = a + 256 * (b + 256 * (c + 256 * (d + 256 * (e + 256 * (f + 256 * (g + 256 * h))))))

-- word i of the bytes s; a byte past the end of s counts as 0
unfoldable pub word : List ℕ → ℕ → ℕ
word s i =
    joined (get_or s (8 * i) 0) (get_or s (8 * i + 1) 0) (get_or s (8 * i + 2) 0) (get_or s (8 * i + 3) 0)
    (get_or s (8 * i + 4) 0) (get_or s (8 * i + 5) 0) (get_or s (8 * i + 6) 0) (get_or s (8 * i + 7) 0)

-- s with the first n bytes of v, low byte first, from position k on
unfoldable pub set_bytes : List ℕ → (k n v : ℕ) → List ℕ
set_bytes s k zero v = s
set_bytes s k (suc n) v = set_bytes (set s k (v % 256)) (suc k) n (v / 256)

-- s with v at word i
unfoldable pub set_word : List ℕ → (i v : ℕ) → List ℕ
set_word s i v = set_bytes s (8 * i) 8 v
