-- Invariants and measures of `text_code::output::store_line`.
use Rattle.text.proofs.Storing.{Numbers}
use Rattle.text_code.proofs.output.store_line.Given as goal

-- `text_code::output::store_line` meets its contract. Assumes nothing.
abbrev pub invariant-loop-n : goal.invariant-loop-n
invariant-loop-n l = Numbers l.numbers l.initial.out l.initial.after l.n-index l.out l.after
