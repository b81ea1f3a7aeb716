-- The lines of the report: what a line of counts says, how long it is, and the totals with it. Assumes nothing.
use mathlib.Core.Path.{◌≡◌, refl, sym, ap, ap₂, ◌∙◌, subst}
use mathlib.Core.Bool.{Bool, true, false, cond}
use mathlib.Core.List.{List, [], ◌∷◌}
use Prim.Native.Nat.{ℕ, ◌+◌, ◌-◌, ◌*◌, ◌/◌, ◌^◌, ◌≤◌}
use native.Mathlib.Omega.{arith}
use lib.Dec.{eqb}
use lib.ListN.{length, length-append}
use borrow.Author.Tests.{eq-eqb, ne_eqb}
use Rattle.prelude.specs.Answer.{Answer, gives, refused}
use Rattle.prelude.proofs.Choice.{pick_true, pick_false}
use Rattle.prelude.proofs.Refusals.{by_refusal}
use Rattle.text.specs.Output.{decimal, numbers_text, line_text, no, text, written}
use Rattle.text.specs.inner.Output.{Wrote}
use Rattle.text.proofs.Storing.{decimal-length, numbers-length}
use Rattle.interface.specs.Set.{SlotCounts, CountAnswer, Counted, NotCounted, CountResult, count_values, count_end, count_says, count_result}
use Rattle.report_text.specs.Report.{image_answer, answer_text, totals_with, totals_text, unread_text}
use Rattle.report_text.specs.Blocks.{Below, TotalsBounded}
use Rattle.report_text.specs.inner.Images.{progress_with, ImageReported}
use Rattle.report_text.specs.declared.SlotTotals.{SlotTotals}
use Rattle.report_text.specs.declared.ReportProgress.{ReportProgress}

-- ---- how long a line is

line_length : (n : ℕ) (numbers : List ℕ) → length (line_text (n ∷ numbers)) ≤ 21 * length numbers + 21
unfolding line_text
line_length n numbers =
    omega (arith, length-append (decimal n) (numbers_text numbers), decimal-length n, numbers-length numbers)

refusal_length : (number : ℕ) → length (text (no number)) ≤ 24
unfolding text
refusal_length number = omega (arith, numbers-length (number ∷ []))

counts_length : (c : SlotCounts) → length (line_text (count_values c)) ≤ 126
unfolding count_values
counts_length c = omega (arith, line_length c.live (c.hidden ∷ c.removes ∷ c.void ∷ c.broken ∷ c.empty ∷ []))

within : (n : ℕ) → n ≤ 126 → n ≤ 128
within n h = omega arith

pub answer_length : (image : List ℕ) → length (answer_text (image_answer image)) ≤ 128
unfolding image_answer count_says answer_text
answer_length image =
    by_refusal (λ (a : Answer). length (answer_text a) ≤ 128) _ _ _ (within _ (counts_length _)) (short _)
  where
    short : (number : ℕ) → length (text (no number)) ≤ 128
    short number = omega (arith, refusal_length number)

-- ---- the answer of counting, by what the call left

module _ (image heads next : List ℕ) (one : length heads ≡ 1) (entries : length next ≡ length image / 128) where
  answer-by : (count_result 1 image heads next).answer ≡ image_answer image
  unfolding count_result image_answer
  answer-by = ap₂ (count_says 1 image) one entries

  pub counted_answer : (a : CountAnswer) (c : SlotCounts) → a ≡ Counted c → (heads' next' : List ℕ)
      → count_end a heads' next' ≡ count_result 1 image heads next → gives (count_values c) ≡ image_answer image
  unfolding count_end
  counted_answer a c d heads' next' e =
      ap (λ (x : CountAnswer). (count_end x heads' next').answer) (sym d) ∙ ap (λ (r : CountResult). r.answer) e ∙ answer-by

  pub refused-answer : (a : CountAnswer) (number slot : ℕ) → a ≡ NotCounted number slot → (heads' next' : List ℕ)
      → count_end a heads' next' ≡ count_result 1 image heads next → refused number ≡ image_answer image
  unfolding count_end
  refused-answer a number slot d heads' next' e =
      ap (λ (x : CountAnswer). (count_end x heads' next').answer) (sym d) ∙ ap (λ (r : CountResult). r.answer) e ∙ answer-by

-- ---- the totals

-- the bound after one image more
pub held_more : (p : ReportProgress) (t : SlotTotals) → TotalsBounded p → 1 ≤ p.left → ((bound : ℕ) → Below p.totals bound → Below t (bound + 2 ^ 32))
    → TotalsBounded (record { left = p.left - 1; totals = t })
held_more p t h some more =
    record {
      few = omega (arith, h.few);
      low = subst (Below t) (sums p.left some h.few) (more (2 ^ 32 * (1000000 - p.left)) h.low);
    }
  where
    sums : (left : ℕ) → 1 ≤ left → left ≤ 1000000 → 2 ^ 32 * (1000000 - left) + 2 ^ 32 ≡ 2 ^ 32 * (1000000 - (left - 1))
    sums left a b = omega arith

below_wider : (t : SlotTotals) (a b : ℕ) → a ≤ b → Below t a → Below t b
below_wider t a b h g =
    record {
      live_low = omega (arith, g.live_low);
      hidden_low = omega (arith, g.hidden_low);
      removes_low = omega (arith, g.removes_low);
      void_low = omega (arith, g.void_low);
      broken_low = omega (arith, g.broken_low);
      empty_low = omega (arith, g.empty_low);
    }

-- no sum loses part of a number
pub held_room : (p : ReportProgress) → TotalsBounded p → Below p.totals (2 ^ 63)
held_room p h = below_wider p.totals _ _ (omega (arith, h.few)) h.low

module _ (image : List ℕ) (p : ReportProgress) (old new : List ℕ) (at end : ℕ) (held : TotalsBounded p) (some : 1 ≤ p.left) where
  -- an accepted image
  pub image_counted : (c : SlotCounts) (t : SlotTotals) → gives (count_values c) ≡ image_answer image → Wrote old new at end (line_text (count_values c))
      → t ≡ totals_with (gives (count_values c)) p.totals → ((bound : ℕ) → Below p.totals bound → Below t (bound + 2 ^ 32))
      → ImageReported image p old at new (record { progress = record { left = p.left - 1; totals = t }; end = end })
  unfolding answer_text progress_with totals_with count_values
  image_counted c t a w e more =
      record {
        wrote = subst (λ (x : Answer). Wrote old new at end (answer_text x)) a w;
        progress_is =
            ap (λ (x : SlotTotals). record { left = p.left - 1; totals = x }) e
            ∙ ap (λ (x : Answer). record { left = p.left - 1; totals = totals_with x p.totals }) a;
        held = held_more p t held some more;
      }

  -- a refused one
  pub image-refused : (number : ℕ) → refused number ≡ image_answer image → Wrote old new at end (text (no number))
      → ImageReported image p old at new (record { progress = record { left = p.left - 1; totals = p.totals }; end = end })
  unfolding answer_text progress_with totals_with
  image-refused number a w =
      record {
        wrote = subst (λ (x : Answer). Wrote old new at end (answer_text x)) a w;
        progress_is = ap (λ (x : Answer). record { left = p.left - 1; totals = totals_with x p.totals }) a;
        held = held_more p p.totals held some (λ b h. below_wider p.totals b (b + 2 ^ 32) (omega arith) h);
      }

-- ---- the end of the input

pub totals_length : (t : SlotTotals) → length (totals_text t) ≤ 126
unfolding totals_text
totals_length t = omega (arith, line_length t.live (t.hidden ∷ t.removes ∷ t.void ∷ t.broken ∷ t.empty ∷ []))

module _ (left bytes : ℕ) (old : List ℕ) (at : ℕ) where
  nothing : unread_text left bytes ≡ [] → Wrote old old at at (unread_text left bytes)
  unfolding written
  nothing e = subst (Wrote old old at at) (sym e) (record { output = refl; end = omega arith })

  pub unread_read : left ≡ 0 → Wrote old old at at (unread_text left bytes)
  unfolding unread_text
  unread_read e = nothing (pick_true (eqb left 0) _ _ (eq-eqb left 0 e))

  module _ (some : left ≡ 0 → ⊥) where
    pub unread_end : bytes ≡ 0 → Wrote old old at at (unread_text left bytes)
    unfolding unread_text
    unread_end e = nothing (pick_false (eqb left 0) _ _ (ne_eqb left 0 some) ∙ pick_true (eqb bytes 0) _ _ (eq-eqb bytes 0 e))

    pub unread_left : (bytes ≡ 0 → ⊥) → (new : List ℕ) (r : ℕ) → Wrote old new at r (text (no 1)) → Wrote old new at r (unread_text left bytes)
    unfolding unread_text
    unread_left ne new r w =
        subst (Wrote old new at r) (sym (pick_false (eqb left 0) _ _ (ne_eqb left 0 some) ∙ pick_false (eqb bytes 0) _ _ (ne_eqb bytes 0 ne))) w

pub unread_length : (left bytes : ℕ) → length (unread_text left bytes) ≤ 24
unfolding unread_text
unread_length left bytes = go (eqb left 0) (eqb bytes 0)
  where
    go : (x y : Bool) → length (cond x [] (cond y [] (text (no 1)))) ≤ 24
    go true y = omega arith
    go false true = omega arith
    go false false = refusal_length 1
