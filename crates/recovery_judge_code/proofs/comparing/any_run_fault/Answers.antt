-- Answers of `recovery_judge_code::comparing::any_run_fault`.
use mathlib.Core.Path.{◌∙◌}
use Prim.Native.Nat.{◌-◌}
use native.Mathlib.Omega.{arith}
use borrow.Author.Rules.{rules}
use borrow.Author.Tests.{tests}
use Rattle.std.proofs.lemmas.Iterator.{YieldsList-from_range}
use Rattle.std.proofs.lemmas.Iterator.Search.{any_from_yields_List}
use Rattle.words.specs.Word.{word}
use Rattle.layout.specs.Content.{size_field_in}
use Rattle.recovery.specs.inner.Decide.{run_fault}
use Rattle.prelude.proofs.Any.{any_listed}
use Rattle.recovery_judge_code.proofs.comparing.any_run_fault.Goals as goal

pub returns : goal.returns
returns c =
    any_from_yields_List (run_fault (size_field_in c.args.l (word c.args.image.now)) c.args.ranks.now c.args.order.now) _ _ c.any.result c.any.ensures.ran
    (YieldsList-from_range 0 (c.args.n - 1) (c.args.n - 1) (cc) (omega arith)) (λ x b q k. search (rules, tests))
    ∙ any_listed (run_fault (size_field_in c.args.l (word c.args.image.now)) c.args.ranks.now c.args.order.now) 0 (c.args.n - 1)
