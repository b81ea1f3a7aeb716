-- How many words a value is moved in. Document 02, A.3: "get and the two writing calls shall move it a word at a time:
-- the moving counts its steps, and the count is shown to be the length divided by 8, rounded up."
use Rattle.std.specs.Prelude.{ℕ, ◌+◌, ◌/◌}

-- for a value of n bytes: "the length divided by 8, rounded up"
abbrev pub words_moved : (n : ℕ) → ℕ
words_moved n = (n + 7) / 8
