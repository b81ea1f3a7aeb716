-- Invariants and measures of `report_text_code::report_block`.
use Prim.Native.Nat.{◌-◌}
use lib.ListN.{length}
use Rattle.report_text.proofs.Blocks.{Blocking}
use Rattle.report_text_code.proofs.report_block.Given as goal

-- `report_text_code::report_block` meets its contract. Assumes nothing.
abbrev pub invariant-loop-size : goal.invariant-loop-size
invariant-loop-size l = Blocking l.input l.next l.initial.progress (length l.initial.out) l.progress l.at l.end l.size l.out

abbrev pub decreases-loop-size : goal.decreases-loop-size
decreases-loop-size l = length l.input - l.at
