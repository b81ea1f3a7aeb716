-- The report block by block: one image more, and the end. Assumes nothing.
use mathlib.Core.Path.{◌≡◌, refl, sym, ap, ap₂, ◌∙◌}
use mathlib.Core.Bool.{true, ◌&&◌}
use mathlib.Core.List.{List, [], ◌++◌, append-nil, append_assoc}
use Prim.Native.Nat.{ℕ, zero, suc, ◌+◌, ◌-◌, ◌*◌, ◌/◌, ◌≤◌, ◌<◌}
use native.Mathlib.Omega.{arith}
use lib.Dec.{eqb, leb}
use lib.ListN.{length, take, drop, length-drop, length-append}
use lib.Seq.{take_all, take-append-le, drop-append-le, drop-drop, length-take-le}
use borrow.Author.Tests.{eq-eqb, ne_eqb, eqb-true, leb-true}
use Rattle.prelude.specs.Answer.{Answer}
use Rattle.prelude.proofs.Choice.{pick_true, pick_false, both_left, both_right}
use Rattle.text.specs.Output.{no, text}
use Rattle.text.specs.inner.Output.{Wrote}
use Rattle.text.proofs.Storing.{written_front}
use Rattle.report_text.specs.Report.{image_size, whole_size, image_answer, answer_text, totals_with, totals_text, unread_text, report_from, report_of}
use Rattle.report_text.specs.Blocks.{TotalsBounded, readable, BlockReported, ends_reading, Prints, block, last, ended, PrintsReport}
use Rattle.report_text.specs.inner.Images.{progress_with, Reportable, ImageReported, BlockLent}
use Rattle.report_text.specs.declared.SlotTotals.{SlotTotals}
use Rattle.report_text.specs.declared.ReportProgress.{ReportProgress}
use Rattle.report_text.specs.declared.ImageReport.{ImageReport}
use Rattle.report_text.specs.declared.Block.{Block}
use Rattle.report_text.proofs.Sizes.{Image, no_size, readable_image, size_more, whole_more}
use Rattle.report_text.proofs.Texts.{answer_length, totals_length, unread_length}

-- ---- the report on an input

-- its first image is whole and may be read
from_image : (left size : ℕ) (input more : List ℕ) (t : SlotTotals) → Image left size input
    → report_from left (input ++ more) t
    ≡ answer_text (image_answer (take size input))
    ++ report_from (left - 1) (drop size input ++ more) (totals_with (image_answer (take size input)) t)
unfolding report_from
from_image zero size input more t g = absurd (omega (arith, g.some_left))
from_image (suc left) size input more t g =
    pick_false _ _ _ (ne_eqb (whole_size (input ++ more)) 0 (λ z. omega (arith, whole, g.size_is, z)))
    ∙ ap there whole
    ∙ ap₂ (λ (x y : List ℕ). answer_text (image_answer x) ++ report_from left y (totals_with (image_answer x) t)) (take-append-le size input more g.inside)
    (drop-append-le size input more g.inside)
    ∙ ap (λ (k : ℕ). answer_text (image_answer (take size input)) ++ report_from k (drop size input ++ more) (totals_with (image_answer (take size input)) t))
    one_less
  where
    one_less : left ≡ suc left - 1
    one_less = omega arith

    whole : whole_size (input ++ more) ≡ size
    whole = whole_more input (suc left) size more g

    there : ℕ → List ℕ
    there n =
        answer_text (image_answer (take n (input ++ more)))
        ++ report_from left (drop n (input ++ more)) (totals_with (image_answer (take n (input ++ more))) t)

-- no image may be read
from_none : (left : ℕ) (input : List ℕ) (t : SlotTotals) → readable left input ≡ 0 → report_from left input t ≡ unread_text left (length input) ++ totals_text t
unfolding report_from readable
from_none zero input t e = refl
from_none (suc left) input t e =
    pick_true _ _ _
    (eq-eqb (whole_size input) 0 (sym (pick_false (eqb (suc left) 0) 0 (whole_size input) (ne_eqb (suc left) 0 (λ z. omega arith))) ∙ e))

-- ---- image by image

-- the images before position at are reported; size is that of the next one
pub record Blocking (input next : List ℕ) (p : ReportProgress) (room : ℕ) (progress : ReportProgress) (at end size : ℕ) (out : List ℕ) : Type 0 where
  pub inside : at ≤ length input
  pub thirds : 3 * end ≤ at
  pub out_size : length out ≡ room
  pub next_size : length next ≡ 512
  pub held : TotalsBounded progress
  pub size_is : size ≡ readable progress.left (drop at input)
  pub goes-on : (more : List ℕ)
      → report_from p.left (input ++ more) p.totals ≡ take end out ++ report_from progress.left (drop at input ++ more) progress.totals

-- there is an entry of next for each slot of an image
pub entries_few : (image next : List ℕ) (p : ReportProgress) (out : List ℕ) (at : ℕ) → Reportable image next p out at → length image / 128 ≤ length next
entries_few image next p out at g = omega (arith, g.size, g.high, g.next_size)

pub block_start : (input next : List ℕ) (p : ReportProgress) (out : List ℕ) (size : ℕ) → length next ≡ 512 → BlockLent input p out
    → size ≡ readable p.left input → Blocking input next p (length out) p 0 0 size out
block_start input next p out size entries g e =
    record {
      inside = omega arith;
      thirds = omega arith;
      out_size = refl;
      next_size = entries;
      held = g.held;
      size_is = e;
      goes-on = λ more. refl;
    }

module _ (input next : List ℕ) (p progress : ReportProgress) (at end size room : ℕ) (out : List ℕ) (g : Blocking input next p room progress at end size out)
    (positive : 0 < size) where
  image : Image progress.left size (drop at input)
  image = readable_image (drop at input) progress.left size g.size_is positive

  pub image_inside : at + size ≤ length input
  image_inside = omega (arith, image.inside, length-drop at input, g.inside)

  -- the part of the input that holds it
  abbrev part : List ℕ
  part = take (at + size - at) (drop at input)

  e : part ≡ take size (drop at input)
  e = let z : at + size - at ≡ size = omega arith in ap (λ (k : ℕ). take k (drop at input)) z

  -- the next image may be reported
  pub block_image : length input + 768 ≤ 3 * room → Reportable part next progress out end
  block_image fits =
      record {
        slots = image.slots;
        low = image.low;
        high = image.high;
        size = ap length e ∙ taken ∙ image.size_is;
        next_size = g.next_size;
        some_left = image.some_left;
        held = g.held;
        room = omega (arith, g.thirds, g.out_size, image_inside, image.size_is, image.low);
      }
    where
      taken : length (take size (drop at input)) ≡ size
      taken = length-take-le size (drop at input) image.inside

  -- and then it is
  pub block_next : (r : ImageReport) (out' next' : List ℕ)
      → ImageReported part progress out end out' r → length out' ≡ length out → length next' ≡ length next
      → length input + 768 ≤ 3 * room → (size' : ℕ)
      → size' ≡ readable r.progress.left (take (length input - (at + size)) (drop (at + size) input))
      → Blocking input next' p room r.progress (at + size) r.end size' out'
  unfolding progress_with
  block_next r out' next' w same_out same_next fits size' s =
      record {
        inside = image_inside;
        thirds = omega (arith, g.thirds, w.wrote.end, lines, image.size_is, image.low);
        out_size = same_out ∙ g.out_size;
        next_size = same_next ∙ g.next_size;
        held = w.held;
        size_is =
            s ∙ ap (readable r.progress.left)
            (take_all (length input - (at + size)) (drop (at + size) input) (omega (arith, length-drop (at + size) input)));
        goes-on = on;
      }
    where
      a : Answer
      a = image_answer part

      lines : length (answer_text a) ≤ 128
      lines = answer_length part

      stored : take r.end out' ≡ take end out ++ answer_text a
      stored =
          ap₂ (λ (k : ℕ) (x : List ℕ). take k x) w.wrote.end w.wrote.output
          ∙ written_front out end (answer_text a) (omega (arith, g.thirds, g.out_size, lines, image_inside, image.size_is, image.low))

      after : drop size (drop at input) ≡ drop (at + size) input
      after = drop-drop size at input

      on : (more : List ℕ)
          → report_from p.left (input ++ more) p.totals
          ≡ take r.end out' ++ report_from r.progress.left (drop (at + size) input ++ more) r.progress.totals
      on more =
          g.goes-on more
          ∙ ap (λ (x : List ℕ). take end out ++ x)
          (from_image progress.left size (drop at input) more progress.totals image
          ∙ ap (λ (x : List ℕ). answer_text (image_answer x) ++ report_from (progress.left - 1) (drop size (drop at input) ++ more)
          (totals_with (image_answer x) progress.totals))
          (sym e))
          ∙ sym (append_assoc (take end out) (answer_text a) _)
          ∙ ap₂ (λ (x y : List ℕ). x ++ report_from (progress.left - 1) (y ++ more) (totals_with a progress.totals)) (sym stored) after
          ∙ ap (λ (q : ReportProgress). take r.end out' ++ report_from q.left (drop (at + size) input ++ more) q.totals) (sym w.progress_is)

pub block_end : (input next : List ℕ) (p progress : ReportProgress) (at end size room : ℕ) (out : List ℕ) → Blocking input next p room progress at end size out
    → size ≤ 0 → BlockReported input p out (record { progress = progress; used = at; end = end })
block_end input next p progress at end size room out g h =
    record {
      inside = g.inside;
      thirds = g.thirds;
      held = g.held;
      none_left = sym g.size_is ∙ omega arith;
      goes-on = g.goes-on;
    }

-- ---- the end of the input

-- there is room for the totals
pub totals_room : (input : List ℕ) (p : ReportProgress) (out₁ out₂ : List ℕ) (b : Block) (end : ℕ) → BlockReported input p out₁ b
    → Wrote out₁ out₂ b.end end (unread_text b.progress.left (length input - b.used)) → length input + 768 ≤ 3 * length out₁
    → length out₂ ≡ length out₁ → end + 126 ≤ length out₂
totals_room input p out₁ out₂ b end g u fits same =
    omega (arith, g.thirds, g.inside, u.end, unread_length b.progress.left (length input - b.used))

-- the whole images, what is left of the input, and the totals
pub last_reported : (input : List ℕ) (p : ReportProgress) (out₁ out₂ out₃ : List ℕ) (b : Block) (end r : ℕ) → BlockReported input p out₁ b
    → Wrote out₁ out₂ b.end end (unread_text b.progress.left (length input - b.used)) → Wrote out₂ out₃ end r (totals_text b.progress.totals)
    → length input + 768 ≤ 3 * length out₁ → length out₂ ≡ length out₁ → length out₃ ≡ length out₂
    → (take r out₃ ≡ report_from p.left input p.totals) × (r ≤ length out₃)
last_reported input p out₁ out₂ out₃ b end r g u w fits same same₃ = (printed, omega (arith, w.end, room))
  where
    room : end + length (totals_text b.progress.totals) ≤ length out₂
    room = omega (arith, totals_room input p out₁ out₂ b end g u fits same, totals_length b.progress.totals)

    unread : List ℕ
    unread = unread_text b.progress.left (length input - b.used)

    first : take end out₂ ≡ take b.end out₁ ++ unread
    first =
        ap₂ (λ (k : ℕ) (x : List ℕ). take k x) u.end u.output
        ∙ written_front out₁ b.end unread (omega (arith, g.thirds, g.inside, fits, unread_length b.progress.left (length input - b.used)))

    rest : report_from b.progress.left (drop b.used input) b.progress.totals ≡ unread ++ totals_text b.progress.totals
    rest =
        from_none b.progress.left (drop b.used input) b.progress.totals g.none_left
        ∙ ap (λ (k : ℕ). unread_text b.progress.left k ++ totals_text b.progress.totals) (length-drop b.used input)

    whole : report_from p.left input p.totals
        ≡ take b.end out₁ ++ report_from b.progress.left (drop b.used input) b.progress.totals
    whole =
        ap (λ (x : List ℕ). report_from p.left x p.totals) (sym (append-nil input)) ∙ g.goes-on []
        ∙ ap (λ (x : List ℕ). take b.end out₁ ++ report_from b.progress.left x b.progress.totals) (append-nil (drop b.used input))

    printed : take r out₃ ≡ report_from p.left input p.totals
    printed =
        ap₂ (λ (k : ℕ) (x : List ℕ). take k x) w.end w.output
        ∙ written_front out₂ end (totals_text b.progress.totals) room
        ∙ ap (λ (x : List ℕ). x ++ totals_text b.progress.totals) first
        ∙ append_assoc (take b.end out₁) unread (totals_text b.progress.totals)
        ∙ ap (λ (x : List ℕ). take b.end out₁ ++ x) (sym rest)
        ∙ sym whole

-- ---- the whole input

-- where the reading ends, what follows changes nothing
ends_same : (left : ℕ) (rest more : List ℕ) (t : SlotTotals) → ends_reading left rest ≡ true → report_from left (rest ++ more) t ≡ report_from left rest t
unfolding report_from unread_text ends_reading
ends_same zero rest more t d = refl
ends_same (suc left) rest more t d =
    from_none (suc left) (rest ++ more) t (unreadable (rest ++ more) (size_more rest more long ∙ none))
    ∙ ap (λ (x : List ℕ). x ++ totals_text t) (some (rest ++ more) (omega (arith, long, length-append rest more)) ∙ sym (some rest long))
    ∙ sym (from_none (suc left) rest t (unreadable rest none))
  where
    tests : leb 8 (length rest) && eqb (image_size rest) 0 ≡ true
    tests = sym (pick_false (eqb (suc left) 0) true _ (ne_eqb (suc left) 0 (λ z. omega arith))) ∙ d

    long : 8 ≤ length rest
    long = leb-true 8 (length rest) (both_left (leb 8 (length rest)) _ tests)

    none : image_size rest ≡ 0
    none = eqb-true (image_size rest) 0 (both_right (leb 8 (length rest)) _ tests)

    unreadable : (input : List ℕ) → image_size input ≡ 0 → readable (suc left) input ≡ 0
    unreadable input z = no_size input (suc left) z

    some : (input : List ℕ) → 8 ≤ length input → unread_text (suc left) (length input) ≡ text (no 1)
    some input h =
        pick_false (eqb (suc left) 0) _ _ (ne_eqb (suc left) 0 (λ z. omega arith))
        ∙ pick_false (eqb (length input) 0) _ _ (ne_eqb (length input) 0 (λ z. omega arith))

prints : {p : ReportProgress} {input output : List ℕ} → Prints p input output → output ≡ report_from p.left input p.totals
prints (block p front more output out b r w) = ap (λ (x : List ℕ). take b.end out ++ x) (prints w) ∙ sym (r.goes-on more)
prints (last p input out r d) = d
prints (ended p rest more out r d c) = c ∙ sym (ends_same p.left rest more p.totals d)

-- HOWEVER THE INPUT COMES, its report is printed
pub prints_report : PrintsReport
unfolding report_of
prints_report input output w = prints w
