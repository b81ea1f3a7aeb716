-- Answers of `allocation_code::take::is_clear_by`.
use native.Mathlib.Omega.{arith}
use borrow.Author.Tests.{not-true}
use Rattle.allocation.proofs.Looks.{choice_inside, clear_by_pass}
use Rattle.allocation_code.proofs.take.is_clear_by.Goals as goal

pub is_any_left-requires : goal.is_any_left-requires
is_any_left-requires c = (
  c.requires.0.layout,
  omega (arith, c.requires.0.image-size),
  choice_inside c.args.image.now c.args.next.now _ _ _ _ _ c.requires.0.image-size c.requires.2
      c.choose_below-choice.ensures.result c.if-choice-eq0.true,
)

pub returns-then-choice-eq0 : goal.returns-then-choice-eq0
returns-then-choice-eq0 c =
    λ e.
    clear_by_pass _ c.args.image.now _ _ c.requires.3 c.args.next.now _ _ _ _ c.choose_below-choice.ensures.result
    c.if-choice-eq0.true (c.is_any_left.ensures.result (not-true _ e))
