-- Answers of `layout_line_code::line::check_version`.
use Rattle.prelude.proofs.Tests.{tests}
use Rattle.prelude.specs.Refusal.{refuse_if}
use Rattle.layout.specs.Line.{version_fault}
use Rattle.layout_line_code.proofs.line.check_version.Goals as goal

pub returns-then-version-ge9223372036854775808 : goal.returns-then-version-ge9223372036854775808
unfolding version_fault refuse_if
returns-then-version-ge9223372036854775808 c = record { result = (search tests) }

pub returns : goal.returns
unfolding version_fault refuse_if
returns c = record { result = (search tests) }
