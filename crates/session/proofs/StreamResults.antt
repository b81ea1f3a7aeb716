-- What the stream's definitions say is written, for any step on a line and however the input comes in reads, is the output byte by byte. Assumes nothing.
use mathlib.Core.Path.{◌≡◌, refl, sym, ap, ◌∙◌}
use mathlib.Core.Bool.{Bool, true, false, cond}
use mathlib.Core.List.{List, [], ◌∷◌, ◌++◌, append-nil, append_assoc}
use Prim.Native.Nat.{ℕ, ◌+◌, ◌≤◌}
use native.Mathlib.Omega.{arith}
use lib.Dec.{eqb}
use lib.ListN.{length}
use borrow.Author.Tests.{ltb-false}
use Rattle.text.specs.Parsing.{line_read}
use Rattle.text.specs.Output.{Printed, text}
use Rattle.text.proofs.Storing.{FewNumbers, render_length, render_front}
use Rattle.session.specs.Step.{StepResult, leaves, no_set}
use Rattle.session.specs.Stream.{StreamResult, stream_end, at_start, printed_by, answered_by, with_byte, stored_part, lacks_room, emptied, flushed, is_full}
use Rattle.session.specs.Stream.{flushed_if_full, written_if_full, answer_result, byte_result, end_result, after_byte, after_read, read_written, reads_written}
use Rattle.session.specs.Stream.{joined_reads}
use Rattle.session.specs.declared.Session.{Session}
use Rattle.session.proofs.defs.Stream.{line_after, byte_output}
use Rattle.text.specs.declared.Line.{Line}
use Rattle.text.specs.declared.Parse.TheVariants.{Start}

-- a further line has room
abbrev Room : StreamResult → Type 0
Room q = q.progress.at + 64 ≤ length q.output

-- the session with its image and index, as byte_output takes them; it does not ask for the answer p
abbrev session_in : Printed → StreamResult → StepResult
session_in p q = leaves p q.progress.session q.image q.heads q.next

both : (P : StreamResult → List ℕ → Type 0) (t : Bool) (x y : StreamResult) (a b : List ℕ) → P x a → P y b → P (cond t x y) (cond t a b)
both P true x y a b p q = p
both P false x y a b p q = q

module _ (step : Line → Session → (image heads next : List ℕ) → StepResult)
    (few : (line : Line) (s : Session) (image heads next : List ℕ) → FewNumbers (step line s image heads next).answer) where
  -- the step at the end of a line
  abbrev step_of : Printed → StreamResult → StepResult
  step_of p q = line_after step (session_in p q) (line_read q.progress.parse)

  -- the output of the bytes that are left
  abbrev rest : Printed → StreamResult → List ℕ → List ℕ
  rest p q bytes = byte_output step (session_in p q) q.progress.parse q.progress.begun bytes

  -- ---- one byte

  -- the line's answer is stored after what was stored
  answer_stored : (p : Printed) (q : StreamResult) → Room q
      → stored_part (answer_result step q.progress q.image q.heads q.next q.output) ≡ stored_part q ++ text (step_of p q).answer
  unfolding stored_part answer_result answered_by printed_by
  answer_stored p q h = render_front _ q.output q.progress.at h (few _ _ _ _ _)

  -- from z on the bytes add `out` to what q had stored
  record Follows (q : StreamResult) (bytes : List ℕ) (z : StreamResult) (out : List ℕ) : Type 0 where
    answer : Printed
    size : length z.output ≡ length q.output
    output : stored_part z ++ rest answer z bytes ≡ stored_part q ++ out

  byte_follows : (p : Printed) (q : StreamResult) (byte : ℕ) (bytes : List ℕ) → Room q
      → Follows q bytes (after_byte step q byte) (rest p q (byte ∷ bytes))
  unfolding byte_output byte_result with_byte stored_part answer_result answered_by printed_by
  byte_follows p q byte bytes h =
      both (Follows q bytes) (eqb byte 10) _ _ _ _
      (record {
        answer = (step_of p q).answer;
        size = render_length _ q.output q.progress.at;
        output = ap (λ (t : List ℕ). t ++ byte_output step (step_of p q) Start false bytes) (answer_stored p q h) ∙ append_assoc (stored_part q) _ _;
      })
      (record { answer = p; size = refl; output = refl })

  -- ---- one read

  -- what was written of a read's bytes, and then the output of `more` from z on, add `out` to what q had stored
  record Reads (q : StreamResult) (written : List ℕ) (z : StreamResult) (more out : List ℕ) : Type 0 where
    answer : Printed
    room : Room z
    empty : stored_part z ≡ []
    output : written ++ rest answer z more ≡ stored_part q ++ out

  -- after a byte that left z, with or without writing the stored part
  flush_goes : (p : Printed) (q z : StreamResult) (bytes more out : List ℕ) (t : Bool) → 64 ≤ length z.output → (t ≡ false → Room z)
      → stored_part z ++ rest p z (bytes ++ more) ≡ stored_part q ++ out
      → ((y : StreamResult) → Room y → Reads y (read_written step y bytes) (after_read step y bytes) more (rest p y (bytes ++ more)))
      → Reads q (cond t (stored_part z) [] ++ read_written step (cond t (flushed z) z) bytes) (after_read step (cond t (flushed z) z) bytes) more out
  unfolding flushed emptied stored_part
  flush_goes p q z bytes more out true long room e ih =
      let r = ih (flushed z) (omega arith) in
      record {
        answer = r.answer;
        room = r.room;
        empty = r.empty;
        output = append_assoc (stored_part z) _ _ ∙ ap (λ (x : List ℕ). stored_part z ++ x) r.output ∙ e;
      }
  flush_goes p q z bytes more out false long room e ih =
      let r = ih z (room refl) in record { answer = r.answer; room = r.room; empty = r.empty; output = r.output ∙ e }

  read_goes : (bytes more : List ℕ) (p : Printed) (q : StreamResult) → Room q
      → Reads q (read_written step q bytes) (after_read step q bytes) more (rest p q (bytes ++ more))
  unfolding read_written after_read flushed emptied stored_part is_full lacks_room flushed_if_full written_if_full
  read_goes [] more p q h = record { answer = p; room = omega arith; empty = refl; output = refl }
  read_goes (byte ∷ bytes) more p q h =
      let f = byte_follows p q byte (bytes ++ more) h in
      flush_goes f.answer q (after_byte step q byte) bytes more _ (is_full (after_byte step q byte)) (omega (arith, f.size))
      (λ e. ltb-false _ _ e) f.output (read_goes bytes more f.answer)

  -- ---- the whole input

  all_reads : (reads : List (List ℕ)) (p : Printed) (q : StreamResult) → Room q
      → reads_written step q reads ≡ stored_part q ++ rest p q (joined_reads reads)
  unfolding reads_written joined_reads byte_output end_result
  all_reads [] p q h =
      both (λ z out. stored_part z ≡ stored_part q ++ out) q.progress.begun _ _ _ _ (answer_stored p q h) (sym (append-nil (stored_part q)))
  all_reads (bytes ∷ reads) p q h =
      let r = read_goes bytes (joined_reads reads) p q h in
      ap (λ (x : List ℕ). read_written step q bytes ++ x) (all_reads reads r.answer (after_read step q bytes) r.room
      ∙ ap (λ (x : List ℕ). x ++ rest r.answer (after_read step q bytes) (joined_reads reads)) r.empty)
      ∙ r.output

  -- from the start, whatever the lent output holds
  pub output_of_reads : (p : Printed) (image heads next output : List ℕ) (reads : List (List ℕ)) → 64 ≤ length output
      → reads_written step (stream_end at_start image heads next output) reads ≡
      byte_output step (leaves p no_set image heads next) Start false (joined_reads reads)
  unfolding at_start stored_part
  output_of_reads p image heads next output reads h = all_reads reads p (stream_end at_start image heads next output) (omega arith)
