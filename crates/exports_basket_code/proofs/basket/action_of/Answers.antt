-- Answers of `exports_basket_code::basket::action_of`.
use Rattle.prelude.proofs.Tests.{tests}
use Rattle.exports.specs.Basket.{action_of}
use Rattle.exports_basket_code.proofs.basket.action_of.Goals as goal

pub returns-then-kind-eq1 : goal.returns-then-kind-eq1
unfolding action_of
returns-then-kind-eq1 c =
    search tests

pub returns-then-kind-eq2 : goal.returns-then-kind-eq2
unfolding action_of
returns-then-kind-eq2 c =
    search tests

pub returns : goal.returns
unfolding action_of
returns c =
    search tests
