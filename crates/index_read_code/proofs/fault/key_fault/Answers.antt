-- Answers of `index_read_code::fault::key_fault`.
use Rattle.prelude.specs.Refusal.{refuse_if}
use Rattle.prelude.proofs.Tests.{tests}
use Rattle.index.specs.Change.{key_fault}
use Rattle.index_read_code.proofs.fault.key_fault.Goals as goal

pub returns-then-held : goal.returns-then-held
unfolding key_fault refuse_if
returns-then-held c =
    record { result = (search tests) }

pub returns-then-held-2 : goal.returns-then-held-2
unfolding key_fault refuse_if
returns-then-held-2 c =
    record { result = (search tests) }

pub returns-else-held : goal.returns-else-held
unfolding key_fault refuse_if
returns-else-held c =
    record { result = (search tests) }

pub returns-else-held-2 : goal.returns-else-held-2
unfolding key_fault refuse_if
returns-else-held-2 c =
    record { result = (search tests) }
