-- Answers of `calls_basket_plan_code::given::high_in`.
use Rattle.prelude.proofs.Tests.{tests}
use Rattle.calls.specs.BasketItems.{high_in}
use Rattle.calls_basket_plan_code.proofs.given.high_in.Goals as goal

pub returns-then-l-eq1 : goal.returns-then-l-eq1
unfolding high_in
returns-then-l-eq1 c =
    record { result = (search tests) }

pub returns-else-l-eq1 : goal.returns-else-l-eq1
unfolding high_in
returns-else-l-eq1 c =
    record { result = (search tests) }
