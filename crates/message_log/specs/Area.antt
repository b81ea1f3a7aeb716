-- The area of the log. Document 02, A.10: "an area of K cells of 448 bytes, K from 2 to 1,000: one marked line as in
-- document 01, then six payload lines". An area is given by its words, m : ℕ → ℕ; a cell is seven lines, 56 words.
use Rattle.std.specs.Prelude.{not, List, ℕ, ◌+◌, ◌*◌, ◌/◌, ◌%◌, eqb, ltb, length}
use Rattle.prelude.specs.Refusal.{refuse_if}
use Rattle.layout.specs.Line.{line}

-- K, or 0 where no area has that length
unfoldable pub cells_of : ℕ → ℕ
cells_of len = refuse_if (ltb len 896) 0 (refuse_if (ltb 448000 len) 0 (refuse_if (not (eqb (len % 448) 0)) 0 (len / 448)))

-- the number of cells of an area
abbrev pub cells_in : (area : List ℕ) → ℕ
cells_in area = cells_of (length area)

-- "30 when the area is not K cells"
unfoldable pub area_fault : (area : List ℕ) → ℕ
area_fault area = refuse_if (eqb (cells_in area) 0) 30 0

-- the marked line of cell c
abbrev pub marked_line : (ℕ → ℕ) → (c : ℕ) → ℕ → ℕ
marked_line m c = line m (7 * c)

-- its payload line i, 0 to 5
abbrev pub payload_line : (ℕ → ℕ) → (c i : ℕ) → ℕ → ℕ
payload_line m c i = line m (7 * c + 1 + i)
