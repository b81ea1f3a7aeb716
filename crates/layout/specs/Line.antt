-- Lines. An image is given by its words, m : ℕ → ℕ. Document 01, "Lines, slots and words", "Which record counts" and
-- "How a call writes".
use Rattle.std.specs.Prelude.{Bool, cond, ℕ, ◌+◌, ◌-◌, ◌*◌, ◌/◌, ◌%◌, ◌^◌, eqb, leb}
use Rattle.prelude.specs.Refusal.{refuse_if}

-- "A line is 64 bytes, 8 words numbered 0 to 7": word i of line n. i counts modulo 8, so that a line is a function of
-- its own eight words alone
abbrev pub line : (ℕ → ℕ) → ℕ → ℕ → ℕ
line m n i = m (8 * n + i % 8)

-- "A slot is two lines, A and B, 128 bytes"
abbrev pub line_a : (ℕ → ℕ) → ℕ → ℕ → ℕ
line_a m s = line m (2 * s)

-- and line B, after line A
abbrev pub line_b : (ℕ → ℕ) → ℕ → ℕ → ℕ
line_b m s = line m (2 * s + 1)

-- "word 0 of each line is the mark, 0 or 1. Word 7 is the stamp: version × 2 + close bit": the close bit in a stamp
abbrev pub close_bit : ℕ → ℕ
close_bit stamp = stamp % 2

-- the version in a stamp, "0 to 2^63 − 1"
abbrev pub version_of : ℕ → ℕ
version_of stamp = stamp / 2

-- "A line is whole when its mark equals its close bit; otherwise it is open"
abbrev pub whole : (mark stamp : ℕ) → Bool
whole mark stamp = eqb mark (close_bit stamp)

-- the version on a whole line, 0 on an open one
unfoldable pub whole_version : (mark stamp : ℕ) → ℕ
whole_version mark stamp = cond (whole mark stamp) (version_of stamp) 0

-- "Let c be the close bit now in that line. The first store makes the mark 1 − c": the stamp is the one now in the line
abbrev pub first_word : ℕ → ℕ
first_word stamp = 1 - close_bit stamp

-- "the last makes the stamp version × 2 + (1 − c)"
abbrev pub last_word_of : (stamp version : ℕ) → ℕ
last_word_of stamp version = version * 2 + first_word stamp

-- "9 when the next version is 2^63 or more"
unfoldable pub version_fault : (version : ℕ) → ℕ
version_fault version = refuse_if (leb (2 ^ 63) version) 9 0
