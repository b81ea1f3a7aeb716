-- Answers of `index_read_code::fault::ends_fault`.
use Rattle.prelude.specs.Refusal.{refuse_if}
use Rattle.prelude.proofs.Tests.{tests}
use Rattle.index.specs.Allocation.{ends_fault}
use Rattle.index_read_code.proofs.fault.ends_fault.Goals as goal

pub returns-then-first-eq0 : goal.returns-then-first-eq0
unfolding ends_fault refuse_if
returns-then-first-eq0 c =
    record { result = (search tests) }

pub returns-then-n-first : goal.returns-then-n-first
unfolding ends_fault refuse_if
returns-then-n-first c =
    record { result = (search tests) }

pub returns-then-last-eq0 : goal.returns-then-last-eq0
unfolding ends_fault refuse_if
returns-then-last-eq0 c =
    record { result = (search tests) }

pub returns-then-n-last : goal.returns-then-n-last
unfolding ends_fault refuse_if
returns-then-n-last c =
    record { result = (search tests) }

pub returns : goal.returns
unfolding ends_fault refuse_if
returns c =
    record { result = (search tests) }
