-- Answers of `calls_basket_plan_code::olds::old_in`.
use mathlib.Core.Path.{sym, ap}
use mathlib.Core.Logic.{inl, inr}
use Rattle.prelude.proofs.Tests.{tests}
use Rattle.calls.specs.Basket.{old_in}
use Rattle.calls_basket_plan_code.proofs.olds.old_in.Goals as goal

pub returns-in-At : goal.returns-in-At
unfolding old_in
returns-in-At c =
    search tests

pub returns-in-Missing : goal.returns-in-Missing
unfolding old_in
returns-in-Missing c =
    elim c.in-Missing.is [ inl e ↦ sym (ap old_in e.2) | inr e ↦ sym (ap old_in e) ]
