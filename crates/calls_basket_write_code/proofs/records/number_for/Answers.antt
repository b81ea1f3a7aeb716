-- Answers of `calls_basket_write_code::records::number_for`.
use Rattle.prelude.proofs.Tests.{tests}
use Rattle.table.specs.Complete.{size_field_for}
use Rattle.calls_basket_write_code.proofs.records.number_for.Goals as goal

pub returns-then-count-eq1 : goal.returns-then-count-eq1
unfolding size_field_for
returns-then-count-eq1 c =
    search tests

pub returns-else-count-eq1 : goal.returns-else-count-eq1
unfolding size_field_for
returns-else-count-eq1 c =
    search tests
