-- Answers of `index_read_code::fault::live_fault`.
use Rattle.prelude.specs.Refusal.{refuse_if}
use Rattle.prelude.proofs.Tests.{tests}
use Rattle.index_read_code.proofs.fault.live_fault.Goals as goal

pub overflow_add-n : goal.overflow_add-n
unfolding refuse_if
overflow_add-n c =
    search tests

pub overflow_add-live : goal.overflow_add-live
unfolding refuse_if
overflow_add-live c =
    search tests

pub returns-then-n-removes : goal.returns-then-n-removes
unfolding refuse_if
returns-then-n-removes c =
    record { result = (search tests) }

pub returns : goal.returns
unfolding refuse_if
returns c =
    record { result = (search tests) }
