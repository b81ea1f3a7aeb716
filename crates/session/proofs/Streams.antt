-- The input byte by byte gives the output of its lines. Assumes nothing.
use mathlib.Core.Path.{◌≡◌, refl, sym, ap, ap₂, ◌∙◌}
use mathlib.Core.Bool.{Bool, true, false, cond}
use mathlib.Core.List.{List, [], ◌∷◌, ◌++◌, append-nil}
use Prim.Native.Nat.{ℕ}
use lib.Dec.{eqb}
use Rattle.text.specs.Forms.{line_of}
use Rattle.text.specs.Parsing.{fed, line_read}
use Rattle.text.proofs.defs.Parsing.{fed_all}
use Rattle.text.specs.Output.{text}
use Rattle.session.specs.Step.{StepResult}
use Rattle.session.specs.Stream.{in_front, lines_of}
use Rattle.session.specs.declared.Session.{Session}
use Rattle.session.proofs.defs.Stream.{line_after, output_of, byte_output}
use Rattle.text.specs.declared.Line.{Line}
use Rattle.text.specs.declared.Parse.{Parse}
use Rattle.text.specs.declared.Parse.TheVariants.{Start}
use Rattle.text.proofs.Parsed.{parsed}

-- ---- the whole input

-- bytes in front of the first line
abbrev all_in_front : List ℕ → List (List ℕ) → List (List ℕ)
all_in_front [] lines = lines
all_in_front (byte ∷ bytes) lines = in_front byte (all_in_front bytes lines)

abbrev some : List ℕ → Bool
some [] = false
some (byte ∷ bytes) = true

front_none : (byte : ℕ) (bytes : List ℕ) → all_in_front (byte ∷ bytes) [] ≡ (byte ∷ bytes) ∷ []
unfolding in_front
front_none byte [] = refl
front_none byte (b ∷ bytes) = ap (in_front byte) (front_none b bytes)

front_line : (bytes line : List ℕ) (lines : List (List ℕ)) → all_in_front bytes (line ∷ lines) ≡ (bytes ++ line) ∷ lines
unfolding in_front
front_line [] line lines = refl
front_line (byte ∷ bytes) line lines = ap (in_front byte) (front_line bytes line lines)

front_more : (bytes : List ℕ) (byte : ℕ) (lines : List (List ℕ))
    → all_in_front bytes (in_front byte lines) ≡ all_in_front (bytes ++ (byte ∷ [])) lines
front_more [] byte lines = refl
front_more (b ∷ bytes) byte lines = ap (in_front b) (front_more bytes byte lines)

fed_more : (p : Parse) (bytes : List ℕ) (byte : ℕ) → fed_all p (bytes ++ (byte ∷ [])) ≡ fed (fed_all p bytes) byte
unfolding fed_all
fed_more p [] byte = refl
fed_more p (b ∷ bytes) byte = fed_more (fed p b) bytes byte

some_more : (bytes : List ℕ) (byte : ℕ) → some (bytes ++ (byte ∷ [])) ≡ true
some_more [] byte = refl
some_more (b ∷ bytes) byte = refl

module _ (step : Line → Session → (image heads next : List ℕ) → StepResult) where
  -- the step at the end of a line that was read byte by byte
  step_line : (r : StepResult) (line : List ℕ) → line_after step r (line_read (fed_all Start line)) ≡ line_after step r (line_of line)
  step_line r line = ap (line_after step r) (parsed line)

  -- one byte, the rest being known
  one_byte : (byte : ℕ) (bytes read : List ℕ) (r : StepResult) (t : Bool)
      → byte_output step (line_after step r (line_of read)) Start false bytes ≡ output_of step (line_after step r (line_of read)) (lines_of bytes)
      → byte_output step r (fed_all Start (read ++ (byte ∷ []))) (some (read ++ (byte ∷ []))) bytes ≡
      output_of step r (all_in_front (read ++ (byte ∷ [])) (lines_of bytes))
      → cond t
      (text (line_after step r (line_read (fed_all Start read))).answer
      ++ byte_output step (line_after step r (line_read (fed_all Start read))) Start false bytes)
      (byte_output step r (fed (fed_all Start read) byte) true bytes) ≡
      output_of step r (all_in_front read (cond t ([] ∷ lines_of bytes) (in_front byte (lines_of bytes))))
  unfolding output_of
  one_byte byte bytes read r true h g =
      ap (λ (q : StepResult). text q.answer ++ byte_output step q Start false bytes) (step_line r read)
      ∙ ap (λ (t : List ℕ). text (line_after step r (line_of read)).answer ++ t) h
      ∙ sym (ap (output_of step r) (front_line read [] (lines_of bytes) ∙ ap (λ (l : List ℕ). l ∷ lines_of bytes) (append-nil read)))
  one_byte byte bytes read r false h g =
      ap₂ (λ (p : Parse) (b : Bool). byte_output step r p b bytes) (sym (fed_more Start read byte)) (sym (some_more read byte))
      ∙ g ∙ sym (ap (output_of step r) (front_more read byte (lines_of bytes)))

  -- `read` is the part of a line before the bytes
  from_within : (bytes read : List ℕ) (r : StepResult)
      → byte_output step r (fed_all Start read) (some read) bytes ≡ output_of step r (all_in_front read (lines_of bytes))
  unfolding byte_output output_of lines_of fed_all
  from_within [] [] r = refl
  from_within [] (b ∷ read) r =
      ap (λ (t : StepResult). text t.answer) (step_line r (b ∷ read))
      ∙ sym (append-nil _) ∙ sym (ap (output_of step r) (front_none b read))
  from_within (byte ∷ bytes) read r =
      one_byte byte bytes read r (eqb byte 10) (from_within bytes [] (line_after step r (line_of read)))
      (from_within bytes (read ++ (byte ∷ [])) r)

  -- a line of output for each line of input
  pub output_of_lines : (r : StepResult) (bytes : List ℕ) → byte_output step r Start false bytes ≡ output_of step r (lines_of bytes)
  unfolding fed_all
  output_of_lines r bytes = from_within bytes [] r
