-- The whole input, byte by byte: a line ends at a byte 10, and a last line may lack it. Document 01, "The trial
-- session": "writes one line for each".
use Rattle.std.specs.Prelude.{Bool, true, false, cond, List, [], ◌∷◌, ◌++◌, ℕ, ◌+◌, eqb, ltb, length, take}
use Rattle.text.specs.Parsing.{fed, line_read}
use Rattle.text.specs.Output.{Rendered, render_result}
use Rattle.session.specs.Step.{StepResult, no_set, step_result}
use Rattle.text.specs.declared.Line.{Line}
use Rattle.text.specs.declared.Parse.TheVariants.{Start}
use Rattle.session.specs.declared.Session.{Session}
use Rattle.session.specs.declared.Progress.{Progress}

-- ---- line by line

-- a byte in front of the first line
unfoldable pub in_front : ℕ → List (List ℕ) → List (List ℕ)
in_front byte [] = (byte ∷ []) ∷ []
in_front byte (line ∷ lines) = (byte ∷ line) ∷ lines

-- the lines of an input, without their ends; what follows the last end is a line if it has a byte
unfoldable pub lines_of : List ℕ → List (List ℕ)
lines_of [] = []
lines_of (byte ∷ bytes) = cond (eqb byte 10) ([] ∷ lines_of bytes) (in_front byte (lines_of bytes))

-- one more line, after a step that left r
unfoldable pub step_after : StepResult → Line → StepResult
step_after r line = step_result line r.session r.image r.heads r.next

-- ---- with the output in a lent slice

-- where the input stands, the lent image and index, and the lent output
pub record StreamResult : Type 0 where
  pub progress : Progress
  pub image : List ℕ
  pub heads : List ℕ
  pub next : List ℕ
  pub output : List ℕ

-- what a call with this answer left
abbrev pub stream_end : Progress → (image heads next output : List ℕ) → StreamResult
stream_end s image heads next output = record { progress = s; image = image; heads = heads; next = next; output = output }

-- before the first byte
unfoldable pub at_start : Progress
at_start = record { parse = Start; begun = false; session = no_set; at = 0 }

-- the step's answer is stored, and the next line starts
unfoldable pub printed_by : StepResult → Rendered → StreamResult
printed_by r w =
    record {
      progress = record { parse = Start; begun = false; session = r.session; at = w.end };
      image = r.image;
      heads = r.heads;
      next = r.next;
      output = w.output;
    }

-- the same, by the step alone: its answer is rendered into the output from position at on
unfoldable pub answered_by : (at : ℕ) → (output : List ℕ) → StepResult → StreamResult
answered_by at output r = printed_by r (render_result r.answer output at)

-- one more byte of a line
unfoldable pub with_byte : Progress → (byte : ℕ) → Progress
with_byte s byte = record { parse = fed s.parse byte; begun = true; session = s.session; at = s.at }

-- the part of the lent output that is stored
unfoldable pub stored_part : StreamResult → List ℕ
stored_part q = take q.progress.at q.output

-- ---- the stored part is written

-- fewer than 64 of these bytes of output are left: a further line might not be stored
unfoldable pub lacks_room : Progress → (size : ℕ) → Bool
lacks_room s size = ltb size (s.at + 64)

-- the stored part was written: the next line is stored at the front
unfoldable pub emptied : Progress → Progress
emptied s = record { parse = s.parse; begun = s.begun; session = s.session; at = 0 }

-- the same of the stream
unfoldable pub flushed : StreamResult → StreamResult
flushed q = stream_end (emptied q.progress) q.image q.heads q.next q.output

unfoldable pub is_full : StreamResult → Bool
is_full q = lacks_room q.progress (length q.output)

-- where a further line might not be stored, the stored part is written, and nothing where it has room
unfoldable pub flushed_if_full : StreamResult → StreamResult
flushed_if_full q = cond (is_full q) (flushed q) q

unfoldable pub written_if_full : StreamResult → List ℕ
written_if_full q = cond (is_full q) (stored_part q) []

-- ---- for a step on a line: that of the trial session is `step_result`

module _ (step : Line → Session → (image heads next : List ℕ) → StepResult) where
  -- a line ends
  unfoldable pub answer_result : Progress → (image heads next output : List ℕ) → StreamResult
  answer_result s image heads next output =
      answered_by s.at output (step (line_read s.parse) s.session image heads next)

  -- one more byte
  unfoldable pub byte_result : Progress → (byte : ℕ) → (image heads next output : List ℕ) → StreamResult
  byte_result s byte image heads next output =
      cond (eqb byte 10) (answer_result s image heads next output) (stream_end (with_byte s byte) image heads next output)

  -- the input ends: a line that lacks its end is one too
  unfoldable pub end_result : Progress → (image heads next output : List ℕ) → StreamResult
  end_result s image heads next output =
      cond s.begun (answer_result s image heads next output) (stream_end s image heads next output)

  -- ---- what a program writes that takes its input in reads

  -- it writes after each byte where the lent output is full, and at the end of every read

  -- after one more byte
  abbrev pub after_byte : StreamResult → (byte : ℕ) → StreamResult
  after_byte q byte = byte_result q.progress byte q.image q.heads q.next q.output

  -- and after the end of the input
  abbrev pub after_end : StreamResult → StreamResult
  after_end q = end_result q.progress q.image q.heads q.next q.output

  -- after the bytes of a read
  unfoldable pub after_read : StreamResult → List ℕ → StreamResult
  after_read q [] = flushed q
  after_read q (byte ∷ bytes) = after_read (flushed_if_full (after_byte q byte)) bytes

  -- what is written of them
  unfoldable pub read_written : StreamResult → List ℕ → List ℕ
  read_written q [] = stored_part q
  read_written q (byte ∷ bytes) = written_if_full (after_byte q byte) ++ read_written (flushed_if_full (after_byte q byte)) bytes

  -- what is written in all, and last what is stored at the end of the input
  unfoldable pub reads_written : StreamResult → List (List ℕ) → List ℕ
  reads_written q [] = stored_part (after_end q)
  reads_written q (bytes ∷ reads) = read_written q bytes ++ reads_written (after_read q bytes) reads

-- the input whose bytes these reads are
unfoldable pub joined_reads : List (List ℕ) → List ℕ
joined_reads [] = []
joined_reads (bytes ∷ reads) = bytes ++ joined_reads reads
