-- The layout as a truth value, for calls that are told which of the two an image has. Document 02, A.11: "All rules are
-- shown once with the layout as a parameter."
use Rattle.std.specs.Prelude.{Bool, cond, ℕ}

-- the layout's number, which the rules have as their parameter and header word 1 names: where keys are wide, of 16
-- bytes, it is 2
abbrev pub layout_number : (wide : Bool) → ℕ
layout_number wide = cond wide 2 1
