-- Answers of `calls_basket_plan_code::given::any_twice`.
use mathlib.Core.Path.{refl, ◌≡◌, ◌∙◌}
use mathlib.Core.Bool.{Bool, true, false}
use Prim.Native.Nat.{ℕ, ◌+◌, ◌-◌}
use native.Mathlib.Omega.{arith}
use borrow.Author.Rules.{rules}
use Rattle.std.specs.List.{range_with_len}
use Rattle.std.proofs.lemmas.Iterator.{cases_from_any, YieldsList-from_range}
use Rattle.allocation.proofs.Tested.{any_by_cases}
use Rattle.calls.specs.BasketItems.{item_at, item_key, changes_from, changes_of}
use Rattle.calls.specs.BasketRefusals.{among}
use Rattle.calls.specs.inner.Basket.{item_key_at}
use Rattle.calls.proofs.BasketChecks.{twice_listed}
use Rattle.calls_basket_plan_code.proofs.given.any_twice.Goals as goal

pub returns : goal.returns
unfolding item_at item_key changes_of
returns c =
    λ values.
    let p : ℕ → Bool = λ i. among (item_key_at c.args.l c.args.items i) (changes_from c.args.l c.args.items values (i + 1) (c.args.count - (i + 1))) in
    any_by_cases p (range_with_len 0 c.args.count) _
    (cases_from_any _ _ _ (λ i. p i ≡ true) (λ i. p i ≡ false) c.any.ensures.ran
    (YieldsList-from_range 0 c.args.count c.args.count refl (omega arith)) (λ i q k. search rules) (λ i q k. search rules))
    ∙ twice_listed c.args.l c.args.items values c.args.count c.args.count 0 (omega arith)
