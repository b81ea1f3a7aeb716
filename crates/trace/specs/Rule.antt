-- THE OUTPUT OF A TRACE. Document 02, A.9: "A program shall read a trace of single calls, in the trial's lines without
-- c, and, at every call that stores, try all 81 pairs of counts for its two lines, recover each, and print how many
-- gave the earlier map and how many the later. A line must read `80 1`, or `81 81` for a replace by an equal value; all
-- else prints nothing."
use Rattle.std.specs.Prelude.{◌≡◌, List, [], ◌∷◌, ◌++◌, ℕ, ◌≤◌, length}
use Rattle.std.proofs.Math.Option.{Option, some, none}
use Rattle.prelude.specs.Refusal.{unless_refused}
use Rattle.interface.specs.Set.{Store, word_numbers, values, World, Call, call_result, PlainMap, earlier_count, later_count}
use Rattle.interface.specs.CutCount.{expected_counts}
use Rattle.text.specs.Forms.{line_of}
use Rattle.text.specs.Output.{Printed, line_text}
use Rattle.text.specs.declared.Line.{Line}
use Rattle.session.specs.Step.{StepResult, leaves, no_set}
use Rattle.session.specs.Stream.{lines_of, step_after, stream_end, at_start, reads_written, joined_reads}
use Rattle.session.specs.Lines.{world_of, call_in}
use Rattle.session.specs.Rule.{fault_at, map_after}
use Rattle.trace.specs.Step.{without_cut, trace_result}

-- "how many gave the earlier map and how many the later", of the call's stores on the set before it: the maps are those
-- of the image before the call and of the image with all its stores played
unfoldable pub cut_counts : World → Call → List ℕ
cut_counts w call =
    earlier_count 1 w.image (word_numbers (call_result 1 w call).stores) (values (call_result 1 w call).stores)
    ∷ later_count 1 w.image (word_numbers (call_result 1 w call).stores) (values (call_result 1 w call).stores) ∷ []

module _ (counts : World → PlainMap → Call → List ℕ) where
  -- a line of counts for a call that stores, by its stores
  unfoldable pub stores_print : World → PlainMap → Call → List Store → List ℕ
  stores_print w m call [] = []
  stores_print w m call (s ∷ ss) = line_text (counts w m call)

  -- what the call in a line prints; nothing where the line has no call
  unfoldable pub call_print : World → PlainMap → Option Call → List ℕ
  call_print w m (some call) = stores_print w m call (call_result 1 w call).stores
  call_print w m none = []

  -- a refused line prints nothing
  unfoldable pub line_print : StepResult → PlainMap → Line → List ℕ
  line_print r m line = unless_refused (fault_at r line) (call_print (world_of r) m (call_in m line)) []

  -- a line of counts for each call that stores, and nothing else: after a step that left r and beside the plain map m
  unfoldable pub calls_print : StepResult → PlainMap → List (List ℕ) → List ℕ
  calls_print r m [] = []
  calls_print r m (line ∷ lines) =
      line_print r m (without_cut (line_of line))
      ++ calls_print (step_after r (without_cut (line_of line))) (map_after r m (without_cut (line_of line))) lines

-- what is written for this input, with no set before it and whatever the lent image, index and output hold
abbrev pub trace_written : (copy later : ℕ) → (image heads next output : List ℕ) → (reads : List (List ℕ)) → List ℕ
trace_written copy later image heads next output reads =
    reads_written (trace_result copy later) (stream_end at_start image heads next output) reads

-- THE OUTPUT for every input, however it comes in reads, where the two slices have room for an image of 511 slots: for
-- each call that stores the counts of its cuts, and nothing else; and these are 80 and 1, or 81 and 81. The plain map
-- may be any, as the first accepted n makes it empty
abbrev pub TraceRule : Type 0
TraceRule =
    (copy later : ℕ) (image heads next output : List ℕ) → 65536 ≤ copy → 65536 ≤ later → 64 ≤ length output
    → (p : Printed) (m : PlainMap) (reads : List (List ℕ))
    → (trace_written copy later image heads next output reads ≡
    calls_print (λ w m. cut_counts w) (leaves p no_set image heads next) m (lines_of (joined_reads reads)))
    × (trace_written copy later image heads next output reads ≡
    calls_print (λ w. expected_counts) (leaves p no_set image heads next) m (lines_of (joined_reads reads)))
