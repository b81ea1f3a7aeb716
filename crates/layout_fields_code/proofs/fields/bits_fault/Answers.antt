-- Answers of `layout_fields_code::fields::bits_fault`.
use Rattle.prelude.proofs.Tests.{tests}
use Rattle.layout.specs.Fault.{bits_fault}
use Rattle.layout_fields_code.proofs.fields.bits_fault.Goals as goal

pub returns-then-w-ge16777216 : goal.returns-then-w-ge16777216
unfolding bits_fault
returns-then-w-ge16777216 c =
    search tests

pub returns-then-number-eq1 : goal.returns-then-number-eq1
unfolding bits_fault
returns-then-number-eq1 c =
    search tests

pub returns : goal.returns
unfolding bits_fault
returns c =
    search tests
