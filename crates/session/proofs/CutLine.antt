-- A line `c A B`: the set stays, and the cut waits. Assumes nothing.
use mathlib.Core.Path.{◌≡◌, refl}
use Prim.Native.Nat.{ℕ}
use native.Mathlib.Omega.{arith}
use lib.Dec.{ltb}
use borrow.Author.Tests.{ltb-false}
use Rattle.prelude.proofs.Refusals.{refuse_if_zero, or_else_zero}
use Rattle.interface.specs.Set.{World, PlainMap}
use Rattle.text.specs.Output.{cut}
use Rattle.session.specs.Step.{StepResult, slots_for, count_fault, cut_fault, line_fault, waiting_for, line_step}
use Rattle.session.specs.Stream.{step_after}
use Rattle.text.specs.declared.Line.TheVariants.{Cut}
use Rattle.std.specs.Prelude.{Some}
use Rattle.session.specs.Lines.{world_of}
use Rattle.session.specs.Rule.{fault_at, map_by_line, map_after, FewWait, few_wait, LineCorrect, cut_line}
use Rattle.session.proofs.defs.Keeps.{SetKeeps, Keeps}
use Rattle.session.proofs.Sizes.{OneHead}
use Rattle.session.proofs.Fronts.{image_front, heads_front, next_front, line_leaves}

few_counts : (a b : ℕ) → count_fault a b ≡ 0 → FewWait (Some (record { a = a; b = b }))
unfolding count_fault
few_counts a b z =
    let first = refuse_if_zero (ltb 8 a) _ _ z (omega arith) in
    let second = refuse_if_zero (ltb 8 b) _ _ first.1 (omega arith) in few_wait (ltb-false 8 a first.0) (ltb-false 8 b second.0)

cut_passed : (r : StepResult) (a b : ℕ) → fault_at r (Cut a b) ≡ 0 → count_fault a b ≡ 0
unfolding line_fault cut_fault
cut_passed r a b z = (or_else_zero _ _ (or_else_zero _ _ z).1).1

module _ (Inv : World → PlainMap → Type 0) (r : StepResult) (m : PlainMap) (k : SetKeeps Inv r m) where
  abbrev n : ℕ
  n = r.session.n

  same_sizes : OneHead n (world_of r)
  unfolding world_of
  same_sizes = record { image-size = image_front r n k.size; heads_size = heads_front r n k.size; next_size = next_front r n k.size }

  pub cut_goes : (a b : ℕ) → fault_at r (Cut a b) ≡ 0 → LineCorrect r m (Cut a b) × Keeps Inv (step_after r (Cut a b)) (map_after r m (Cut a b))
  unfolding slots_for map_by_line line_step waiting_for world_of
  cut_goes a b z =
      let l = line_leaves r m (Cut a b) n refl z Inv (cut a b) (world_of r) (Some (record { a = a; b = b })) m
      (record { answer = refl; session = refl; world = refl }) same_sizes (few_counts a b (cut_passed r a b z)) k.set refl in
      (cut_line z l.0, l.1)
