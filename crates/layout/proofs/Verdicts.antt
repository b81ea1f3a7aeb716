-- The verdict on a slot and the fault of its marks, by what the tests on the words gave. Assumes nothing.
use mathlib.Core.Path.{◌≡◌, sym, ap, ap₂, ◌∙◌}
use mathlib.Core.Bool.{Bool, true, false}
use Prim.Native.Nat.{ℕ, ◌+◌, ◌*◌, ◌/◌, ◌≤◌, ◌<◌, max}
use native.Mathlib.Omega.{arith}
use lib.Dec.{eqb, ltb}
use borrow.Author.Tests.{eq-eqb, ne_eqb, lt-ltb, le-ltb}
use Rattle.layout.specs.Line.{line_a, version_of, whole, whole_version}
use Rattle.layout.specs.Slot.{paired, verdict_of, line_verdict, slot_verdict}
use Rattle.layout.specs.Fault.{mark_fault}
use Rattle.layout.specs.declared.Verdict.{Verdict}
use Rattle.layout.specs.declared.Verdict.TheVariants.{Valid, Empty, Broken}
use Rattle.prelude.proofs.Choice.{pick_true, pick_false}

-- the words that say a slot's verdict
pub judged_slot : (m : ℕ → ℕ) (s ma sa mb sb : ℕ) (r : Verdict) → r ≡ verdict_of ma sa mb sb
    → ma ≡ m (16 * s) → sa ≡ m (16 * s + 7) → mb ≡ m (16 * s + 8) → sb ≡ m (16 * s + 15) → r ≡ slot_verdict m s
unfolding slot_verdict line_verdict
judged_slot m s ma sa mb sb r e a b c d =
    e ∙ ap₂ (λ (x y : ℕ). verdict_of x y mb sb) (a ∙ ap m (omega arith)) (b ∙ ap m (omega arith))
    ∙ ap₂ (λ (x y : ℕ). verdict_of (line_a m s 0) (line_a m s 7) x y) (c ∙ ap m (omega arith)) (d ∙ ap m (omega arith))

-- mark_fault: v and w are the marks
module _ (m : ℕ → ℕ) (s v : ℕ) (e : v ≡ m (16 * s)) where
  first_mark : v ≡ line_a m s 0
  first_mark = e ∙ ap m (omega arith)

  pub bad_mark : 1 < v → true ≡ mark_fault m s
  unfolding mark_fault
  bad_mark h = sym (pick_true (ltb 1 (line_a m s 0)) _ _ (ap (ltb 1) (sym first_mark) ∙ lt-ltb 1 v h))

  pub other_mark : v ≤ 1 → (w : ℕ) → w ≡ m (16 * s + 8) → ltb 1 w ≡ mark_fault m s
  unfolding mark_fault
  other_mark h w f =
      ap (ltb 1) (f ∙ ap m (omega arith))
      ∙ sym (pick_false (ltb 1 (line_a m s 0)) _ _ (ap (ltb 1) (sym first_mark) ∙ le-ltb 1 v h))
