-- Answers of `allocation_code::take::end_fault`.
use Rattle.prelude.specs.Refusal.{refuse_if}
use Rattle.prelude.proofs.Tests.{tests}
use Rattle.allocation.specs.inner.Walk.{end_fault}
use Rattle.allocation_code.proofs.take.end_fault.Goals as goal

pub returns-then-link-eq0 : goal.returns-then-link-eq0
unfolding end_fault refuse_if
returns-then-link-eq0 c =
    record { result = (search tests) }

pub returns-then-n-link : goal.returns-then-n-link
unfolding end_fault refuse_if
returns-then-n-link c =
    record { result = (search tests) }

pub returns-then-left-eq0 : goal.returns-then-left-eq0
unfolding end_fault refuse_if
returns-then-left-eq0 c =
    record { result = (search tests) }

pub returns : goal.returns
unfolding end_fault refuse_if
returns c =
    record { result = (search tests) }
