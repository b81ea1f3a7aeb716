-- Answers of `allocation_code::look::is_any_left`.
use mathlib.Core.Path.{refl, ◌≡◌}
use mathlib.Core.Bool.{true}
use Prim.Native.Nat.{◌+◌}
use native.Mathlib.Omega.{arith}
use borrow.Author.Rules.{rules}
use Rattle.std.proofs.lemmas.Iterator.{cases_from_any, YieldsList-from_range}
use Rattle.allocation.specs.inner.Choice.{ClearAt}
use Rattle.allocation.proofs.Looks.{clear_by_pass_over}
use Rattle.allocation_code.proofs.look.is_any_left.Goals as goal

pub returns : goal.returns
returns c =
    record {
      result = clear_by_pass_over _ _ _ _ _ _ _ _ _
          (cases_from_any _ _ _ (λ t. true ≡ true) (ClearAt c.args.l c.args.image.now c.args.slots c.args.got c.args.known c.args.strict) c.any.ensures.ran
          (YieldsList-from_range 1 (c.args.n + 1) c.args.n refl (omega arith)) (λ t q k. refl) (λ t q k. search rules));
    }
