-- The high word of a key, as the functions have it: 0 in layout 1.
use Rattle.std.specs.Prelude.{ℕ, ◌-◌}
use Rattle.layout.specs.Record.{key_from}

-- the high word of the key in line A
unfoldable pub high_word : (l : ℕ) → (A : ℕ → ℕ) → ℕ
high_word l A = key_from A 2 (l - 1)
