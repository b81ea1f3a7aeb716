-- The output for a step on a line, line by line and byte by byte.
use mathlib.Core.Bool.{Bool, true, false, cond}
use mathlib.Core.List.{List, [], ◌∷◌, ◌++◌}
use Prim.Native.Nat.{ℕ}
use lib.Dec.{eqb}
use Rattle.text.specs.Forms.{line_of}
use Rattle.text.specs.Parsing.{fed, line_read}
use Rattle.text.specs.Output.{text}
use Rattle.session.specs.Step.{StepResult}
use Rattle.text.specs.declared.Line.{Line}
use Rattle.text.specs.declared.Parse.{Parse}
use Rattle.text.specs.declared.Parse.TheVariants.{Start}
use Rattle.session.specs.declared.Session.{Session}

module _ (step : Line → Session → (image heads next : List ℕ) → StepResult) where
  -- one more line, after a step that left r
  abbrev pub line_after : StepResult → Line → StepResult
  line_after r line = step line r.session r.image r.heads r.next

  -- the output of these lines
  unfoldable pub output_of : StepResult → List (List ℕ) → List ℕ
  output_of r [] = []
  output_of r (line ∷ lines) = text (line_after r (line_of line)).answer ++ output_of (line_after r (line_of line)) lines

  unfoldable pub byte_output : StepResult → Parse → (begun : Bool) → List ℕ → List ℕ
  byte_output r parse begun [] = cond begun (text (line_after r (line_read parse)).answer) []
  byte_output r parse begun (byte ∷ bytes) =
      cond (eqb byte 10)
      (text (line_after r (line_read parse)).answer ++ byte_output (line_after r (line_read parse)) Start false bytes)
      (byte_output r (fed parse byte) true bytes)
