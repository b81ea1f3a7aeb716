-- Answers of `calls_basket_plan_code::given::key_count_fault`.
use Rattle.prelude.proofs.Tests.{tests}
use Rattle.prelude.specs.Refusal.{refuse_if}
use Rattle.calls.specs.BasketRefusals.{key_count_fault}
use Rattle.calls_basket_plan_code.proofs.given.key_count_fault.Goals as goal

pub returns-then-count-eq0 : goal.returns-then-count-eq0
unfolding key_count_fault refuse_if
returns-then-count-eq0 c =
    search tests

pub returns-then-count-gt8 : goal.returns-then-count-gt8
unfolding key_count_fault refuse_if
returns-then-count-gt8 c =
    search tests

pub returns : goal.returns
unfolding key_count_fault refuse_if
returns c =
    search tests
