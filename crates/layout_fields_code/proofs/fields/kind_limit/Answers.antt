-- Answers of `layout_fields_code::fields::kind_limit`.
use Rattle.prelude.proofs.Tests.{tests}
use Rattle.prelude.proofs.Choice.{pick_false}
use Rattle.layout.specs.Fault.{kind_limit}
use Rattle.layout_fields_code.proofs.fields.kind_limit.Goals as goal

pub value_limit-requires : goal.value_limit-requires
unfolding kind_limit
value_limit-requires c =
    search tests

pub returns-then-kind-ne2 : goal.returns-then-kind-ne2
unfolding kind_limit
returns-then-kind-ne2 c =
    search (pick_false, tests)

pub returns : goal.returns
unfolding kind_limit
returns c =
    search tests
