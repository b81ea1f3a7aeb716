-- Slots by their marks and stamps. Document 01, "Which record counts".
use Rattle.std.specs.Prelude.{Bool, true, false, cond, ℕ, max, eqb}
use Rattle.layout.specs.Line.{line_a, line_b, version_of, whole, whole_version}
use Rattle.layout.specs.declared.Verdict.{Verdict}
use Rattle.layout.specs.declared.Verdict.TheVariants.{Valid, Empty, Broken}

-- both lines are whole and carry the same version
unfoldable pub paired : (markA stampA markB stampB : ℕ) → Bool
paired markA stampA markB stampB =
    cond (whole markA stampA) (cond (whole markB stampB) (eqb (version_of stampA) (version_of stampB)) false) false

-- the highest version on a whole line of a slot with lines A and B, 0 if none is whole
unfoldable pub highest_whole_of : (A B : ℕ → ℕ) → ℕ
highest_whole_of A B = max (whole_version (A 0) (A 7)) (whole_version (B 0) (B 7))

-- "A slot is valid when both lines are whole and carry the same version, at least 1. It is empty when both are whole
-- with version 0. Every other slot is broken": Valid has the version, Broken the highest version on a whole line
unfoldable pub verdict_of : (markA stampA markB stampB : ℕ) → Verdict
verdict_of markA stampA markB stampB =
    cond (paired markA stampA markB stampB) (cond (eqb (version_of stampA) 0) Empty (Valid (version_of stampA)))
    (Broken (max (whole_version markA stampA) (whole_version markB stampB)))

-- the verdict on a slot with lines A and B
unfoldable pub line_verdict : (A B : ℕ → ℕ) → Verdict
line_verdict A B = verdict_of (A 0) (A 7) (B 0) (B 7)

-- and on slot s of an image that is given by its words
unfoldable pub slot_verdict : (ℕ → ℕ) → ℕ → Verdict
slot_verdict m s = line_verdict (line_a m s) (line_b m s)

-- is the slot valid?
unfoldable pub is_valid : Verdict → Bool
is_valid (Valid version) = true
is_valid Empty = false
is_valid (Broken top) = false
