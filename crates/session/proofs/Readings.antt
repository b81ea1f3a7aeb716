-- A loop over the bytes of one read leaves what `after_read` says, for any step on a line. Assumes nothing.
use mathlib.Core.Path.{◌≡◌, refl, sym, ap, ◌∙◌}
use mathlib.Core.Bool.{Bool, true, false, cond}
use mathlib.Core.List.{List}
use Prim.Native.Nat.{ℕ, ◌+◌, ◌≤◌, ◌<◌}
use native.Mathlib.Numerals.{add-one}
use lib.ListN.{length, get_or, drop, drop_of_length-le}
use lib.Seq.{drop-cons}
use Rattle.text.specs.declared.Line.{Line}
use Rattle.session.specs.Step.{StepResult}
use Rattle.session.specs.Stream.{StreamResult, stream_end, lacks_room, emptied, flushed, is_full, flushed_if_full, byte_result, after_read}
use Rattle.session.specs.declared.Session.{Session}
use Rattle.session.specs.declared.Progress.{Progress}

-- the stored part was written where a further line might lack room
flushed_part : (q v : Progress) (image heads next output : List ℕ) → v ≡ cond (lacks_room q (length output)) (emptied q) q
    → stream_end v image heads next output ≡ flushed_if_full (stream_end q image heads next output)
unfolding flushed_if_full is_full flushed
flushed_part q v image heads next output e = ap (λ (x : Progress). stream_end x image heads next output) e ∙ go (lacks_room q (length output))
  where
    go : (t : Bool) → stream_end (cond t (emptied q) q) image heads next output ≡
        cond t (stream_end (emptied q) image heads next output) (stream_end q image heads next output)
    go true = refl
    go false = refl

module _ (step : Line → Session → (image heads next : List ℕ) → StepResult) (input : List ℕ) (whole : StreamResult) where
  -- what is left of the bytes leaves what all of them do
  abbrev pub Reading : (i : ℕ) → Progress → (image heads next output : List ℕ) → Type 0
  Reading i u image heads next output = after_read step (stream_end u image heads next output) (drop i input) ≡ after_read step whole input

  -- one more byte
  pub read_more : (i : ℕ) (u q v : Progress) (image heads next output image' heads' next' output' : List ℕ) → Reading i u image heads next output
      → i < length input → stream_end q image' heads' next' output' ≡ byte_result step u (get_or input i 0) image heads next output
      → v ≡ cond (lacks_room q (length output')) (emptied q) q → Reading (i + 1) v image' heads' next' output'
  unfolding after_read
  read_more i u q v image heads next output image' heads' next' output' r h e f =
      ap (λ (z : StreamResult). after_read step z (drop (i + 1) input))
      (flushed_part q v image' heads' next' output' f ∙ ap flushed_if_full e)
      ∙ ap (λ (k : ℕ). after_read step (flushed_if_full (byte_result step u (get_or input i 0) image heads next output)) (drop k input)) (add-one i)
      ∙ ap (after_read step (stream_end u image heads next output)) (sym (drop-cons input i 0 h)) ∙ r

  -- no more bytes
  pub read_done : (i : ℕ) (u v : Progress) (image heads next output : List ℕ) → Reading i u image heads next output → length input ≤ i → v ≡ emptied u
      → stream_end v image heads next output ≡ after_read step whole input
  unfolding after_read flushed
  read_done i u v image heads next output r h e =
      ap (λ (x : Progress). stream_end x image heads next output) e
      ∙ sym (ap (after_read step (stream_end u image heads next output)) (drop_of_length-le input h)) ∙ r
