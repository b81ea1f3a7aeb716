-- The output of a session, for every input, is what the plain map gives. Assumes nothing.
use mathlib.Core.Path.{◌≡◌, refl, sym, ap, ap₂, ◌∙◌}
use mathlib.Core.Bool.{false}
use mathlib.Core.Option.{some, none}
use mathlib.Core.List.{List, [], ◌∷◌, ◌++◌}
use Prim.Native.Nat.{ℕ, ◌≤◌}
use native.Mathlib.Omega.{arith}
use lib.ListN.{length}
use Rattle.prelude.proofs.Refusals.{taken_leaves, refused_keeps}
use Rattle.interface.specs.Set.{World, Call, PlainMap}
use Rattle.text.specs.Forms.{line_of}
use Rattle.text.specs.Output.{Printed, text}
use Rattle.session.specs.Step.{StepResult, leaves, no_set, step_result}
use Rattle.session.specs.Stream.{lines_of, step_after, stream_end, at_start, reads_written, joined_reads}
use Rattle.session.proofs.defs.Stream.{output_of, byte_output}
use Rattle.text.specs.declared.Line.{Line}
use Rattle.text.specs.declared.Line.TheVariants.{New, Write, Remove, Get, Cut, Bad}
use Rattle.text.specs.declared.Parse.TheVariants.{Start}
use Rattle.session.proofs.Streams.{output_of_lines}
use Rattle.session.proofs.StreamResults.{output_of_reads}
use Rattle.session.proofs.FewNumbers.{step_few}
use Rattle.session.specs.Lines.{world_of, call_in}
use Rattle.session.specs.Rule.{SizedLine, SessionHolds, fault_at, plain_prints, map_after, LineCorrect, refused_line, new_line, cut_line, call_line}
use Rattle.session.specs.Printed.{call_prints, line_prints, expected_print, expected_output}
use Rattle.session.proofs.SessionRule.{session_rule}
use Rattle.prelude.specs.Members.{All, none_left, one_more}
use Rattle.session.proofs.Numbers.{sized_line}

-- ---- one line

none-some : (call : Call) → none ≡ some call → ⊥
none-some call e = let z : ◌≡◌ {A = ℕ} 0 1 = cc in omega arith

call-prints : (w : World) (m : PlainMap) (line : Line) (call : Call) → call_in m line ≡ some call → plain_prints w m call ≡ line_prints w m line
unfolding call_in call_prints line_prints
call-prints w m (New n) call e = absurd (none-some call e)
call-prints w m (Write key word) call e = sym (ap (call_prints w m) e)
call-prints w m (Remove key) call e = sym (ap (call_prints w m) e)
call-prints w m (Get key) call e = sym (ap (call_prints w m) e)
call-prints w m (Cut a b) call e = absurd (none-some call e)
call-prints w m Bad call e = absurd (none-some call e)

module _ (r : StepResult) (m : PlainMap) where
  prints_taken : (line : Line) → fault_at r line ≡ 0 → line_prints (world_of r) m line ≡ expected_print r m line
  unfolding expected_print
  prints_taken line z = sym (taken_leaves _ _ (fault_at r line) z)

  right_due : (line : Line) → LineCorrect r m line → (step_after r line).answer ≡ expected_print r m line
  unfolding expected_print line_prints
  right_due line (refused_line ne e) = ap (λ (x : StepResult). x.answer) e ∙ sym (refused_keeps _ _ (fault_at r line) ne)
  right_due (New n) (new_line z l) = l.answer ∙ prints_taken (New n) z
  right_due (Cut a b) (cut_line z l) = l.answer ∙ prints_taken (Cut a b) z
  right_due line (call_line z e l right ruled) = l.answer ∙ call-prints (world_of r) m line _ e ∙ prints_taken line z

-- ---- every input

-- the lines of an input, read
abbrev lines_read : List (List ℕ) → List Line
lines_read [] = []
lines_read (line ∷ lines) = line_of line ∷ lines_read lines

all_sized : (lines : List (List ℕ)) → All SizedLine (lines_read lines)
all_sized [] = none_left
all_sized (line ∷ lines) = one_more (sized_line line) (all_sized lines)

output_due : (r : StepResult) (m : PlainMap) (lines : List (List ℕ)) → SessionHolds r m (lines_read lines)
    → output_of step_result r lines ≡ expected_output r m lines
unfolding output_of expected_output step_after
output_due r m [] h = refl
output_due r m (line ∷ lines) h =
    ap₂ (λ (p : Printed) (rest : List ℕ). text p ++ rest) (right_due r m (line_of line) h.1)
    (output_due (step_after r (line_of line)) (map_after r m (line_of line)) lines h.2)

module _ (p : Printed) (image heads next : List ℕ) (m : PlainMap) where
  -- before the first line: no set, whatever the lent image and index hold
  abbrev before_lines : StepResult
  before_lines = leaves p no_set image heads next

  -- THE OUTPUT of any input, byte by byte, is what the plain map gives
  pub input_output : (bytes : List ℕ)
      → byte_output step_result (leaves p no_set image heads next) Start false bytes ≡ expected_output (leaves p no_set image heads next) m (lines_of bytes)
  input_output bytes =
      output_of_lines step_result before_lines bytes
      ∙ output_due before_lines m (lines_of bytes) (session_rule p image heads next m (lines_read (lines_of bytes)) (all_sized (lines_of bytes)))

  -- THE OUTPUT of any input by what the contracts of take_byte and end_input promise, written where the lent output is full and at the end of every read
  pub results_output : (output : List ℕ) → 64 ≤ length output → (reads : List (List ℕ))
      → reads_written step_result (stream_end at_start image heads next output) reads ≡
      expected_output (leaves p no_set image heads next) m (lines_of (joined_reads reads))
  results_output output room reads = output_of_reads step_result step_few p image heads next output reads room ∙ input_output (joined_reads reads)
