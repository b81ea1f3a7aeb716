-- Answers of `calls_basket_plan_code::given::is_among`.
use mathlib.Core.Path.{refl, ◌≡◌, ◌∙◌}
use mathlib.Core.Bool.{Bool, true, false}
use Prim.Native.Nat.{ℕ, ◌-◌}
use lib.Dec.{eqb}
use borrow.Author.Rules.{rules}
use Rattle.std.specs.List.{range_with_len}
use Rattle.std.proofs.lemmas.Iterator.{cases_from_any, YieldsList-from_range}
use Rattle.layout.specs.Record.{key_with}
use Rattle.allocation.proofs.Tested.{any_by_cases}
use Rattle.calls.specs.BasketItems.{item_at}
use Rattle.calls.specs.inner.Basket.{item_key_at}
use Rattle.calls.proofs.BasketChecks.{among_listed}
use Rattle.calls_basket_plan_code.proofs.given.is_among.Goals as goal

pub returns : goal.returns
unfolding item_at
returns c =
    λ values.
    let p : ℕ → Bool = λ j. eqb (item_key_at c.args.l c.args.items j) (key_with c.args.low c.args.high) in
    any_by_cases p (range_with_len c.args.from (c.args.count - c.args.from)) _
    (cases_from_any _ _ _ (λ j. p j ≡ true) (λ j. p j ≡ false) c.any.ensures.ran
    (YieldsList-from_range c.args.from c.args.count (c.args.count - c.args.from) refl refl) (λ j q k. search rules) (λ j q k. search rules))
    ∙ among_listed c.args.l c.args.items values (key_with c.args.low c.args.high) c.args.from (c.args.count - c.args.from)
