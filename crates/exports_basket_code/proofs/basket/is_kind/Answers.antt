-- Answers of `exports_basket_code::basket::is_kind`.
use Rattle.prelude.proofs.Tests.{tests}
use Rattle.exports.specs.Basket.{is_kind}
use Rattle.exports_basket_code.proofs.basket.is_kind.Goals as goal

pub returns-then-kind-eq1 : goal.returns-then-kind-eq1
unfolding is_kind
returns-then-kind-eq1 c =
    search tests

pub returns-then-kind-eq2 : goal.returns-then-kind-eq2
unfolding is_kind
returns-then-kind-eq2 c =
    search tests

pub returns : goal.returns
unfolding is_kind
returns c =
    search tests
