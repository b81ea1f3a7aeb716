-- Answers of `recovery_judge_code::comparing::any_shared`.
use mathlib.Core.Path.{◌∙◌}
use Prim.Native.Nat.{◌-◌}
use native.Mathlib.Omega.{arith}
use borrow.Author.Rules.{rules}
use borrow.Author.Tests.{tests}
use Rattle.std.proofs.lemmas.Iterator.{YieldsList-from_range}
use Rattle.std.proofs.lemmas.Iterator.Search.{any_from_yields_List}
use Rattle.recovery.specs.inner.Decide.{equal_neighbours}
use Rattle.prelude.proofs.Any.{any_listed}
use Rattle.recovery_judge_code.proofs.comparing.any_shared.Goals as goal

pub returns : goal.returns
returns c =
    any_from_yields_List (equal_neighbours c.args.ranks.now c.args.order.now) _ _ c.any.result c.any.ensures.ran
    (YieldsList-from_range 0 (c.args.n - 1) (c.args.n - 1) (cc) (omega arith)) (λ x b q k. search (rules, tests))
    ∙ any_listed (equal_neighbours c.args.ranks.now c.args.order.now) 0 (c.args.n - 1)
