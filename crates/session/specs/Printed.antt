-- The whole output of a session, by the plain map. Document 01, "The trial session": "writes one line for each".
use Rattle.std.proofs.Math.Option.{Option, some, none}
use Rattle.std.specs.Prelude.{List, [], ◌∷◌, ◌++◌, ℕ}
use Rattle.prelude.specs.Refusal.{unless_refused}
use Rattle.interface.specs.Set.{World, Call, PlainMap}
use Rattle.text.specs.Forms.{line_of}
use Rattle.text.specs.Output.{Printed, ok, cut, text, no}
use Rattle.session.specs.Step.{StepResult}
use Rattle.session.specs.Stream.{step_after}
use Rattle.text.specs.declared.Line.{Line}
use Rattle.text.specs.declared.Line.TheVariants.{New, Write, Remove, Get, Cut, Bad}
use Rattle.session.specs.Lines.{world_of, call_in}
use Rattle.session.specs.Rule.{fault_at, plain_prints, map_after}

-- what a line's call prints; of the lines that come here only a Bad one has none, and it is refused before
unfoldable pub call_prints : World → PlainMap → Option Call → Printed
call_prints w m (some call) = plain_prints w m call
call_prints w m none = no 16

-- what a line prints that is not refused before it is carried out: "`ok N`", "`cut A B`", or what its call prints
unfoldable pub line_prints : World → PlainMap → Line → Printed
line_prints w m (New n) = ok (n ∷ [])
line_prints w m (Cut a b) = cut a b
line_prints w m (Write key word) = call_prints w m (call_in m (Write key word))
line_prints w m (Remove key) = call_prints w m (call_in m (Remove key))
line_prints w m (Get key) = call_prints w m (call_in m (Get key))
line_prints w m Bad = call_prints w m (call_in m Bad)

-- "A refusal prints `no` and its number"
unfoldable pub expected_print : StepResult → PlainMap → Line → Printed
expected_print r m line = unless_refused (fault_at r line) (line_prints (world_of r) m line) (no (fault_at r line))

-- the output that is due for these lines, after a step that left r and beside the plain map m
unfoldable pub expected_output : StepResult → PlainMap → List (List ℕ) → List ℕ
expected_output r m [] = []
expected_output r m (line ∷ lines) =
    text (expected_print r m (line_of line)) ++ expected_output (step_after r (line_of line)) (map_after r m (line_of line)) lines
