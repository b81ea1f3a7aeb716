-- Answers of `layout_fields_code::fields::kind_fault`.
use Rattle.prelude.proofs.Tests.{tests}
use Rattle.layout.specs.Fault.{kind_fault}
use Rattle.layout_fields_code.proofs.fields.kind_fault.Goals as goal

pub returns-then-kind-eq1 : goal.returns-then-kind-eq1
unfolding kind_fault
returns-then-kind-eq1 c =
    search tests

pub returns-then-kind-eq2 : goal.returns-then-kind-eq2
unfolding kind_fault
returns-then-kind-eq2 c =
    search tests

pub returns : goal.returns
unfolding kind_fault
returns c =
    search tests
