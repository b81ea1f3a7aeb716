-- Answers of `calls_format_code::format::format_fault`.
use Rattle.prelude.specs.Refusal.{refuse_if}
use Rattle.prelude.proofs.Tests.{tests}
use Rattle.calls.specs.Format.{layout_fault, format_fault}
use Rattle.calls_format_code.proofs.format.format_fault.Goals as goal

pub returns-then-n-eq0 : goal.returns-then-n-eq0
unfolding refuse_if layout_fault format_fault
returns-then-n-eq0 c =
    search tests

pub returns-then-l-lt1 : goal.returns-then-l-lt1
unfolding refuse_if layout_fault format_fault
returns-then-l-lt1 c =
    search tests

pub returns-then-l-gt2 : goal.returns-then-l-gt2
unfolding refuse_if layout_fault format_fault
returns-then-l-gt2 c =
    search tests

pub returns : goal.returns
unfolding refuse_if layout_fault format_fault
returns c =
    search tests
