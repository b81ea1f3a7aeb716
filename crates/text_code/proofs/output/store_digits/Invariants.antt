-- Invariants and measures of `text_code::output::store_digits`.
use Rattle.text.proofs.Storing.{Filling}
use Rattle.text_code.proofs.output.store_digits.Given as goal

-- `text_code::output::store_digits` meets its contract. Assumes nothing.
abbrev pub invariant-loop-i : goal.invariant-loop-i
invariant-loop-i l = Filling l.n l.i l.rest l.space
