-- Answers of `allocation_code::take::named_version`.
use Rattle.allocation.proofs.Own.{named_above, named_read}
use Rattle.allocation_code.proofs.take.named_version.Goals as goal

-- `allocation_code::take::named_version` meets its contract. Assumes nothing.
pub returns-then-n-s : goal.returns-then-n-s
returns-then-n-s c =
    record { result = (named_above _ _ _ c.if-n-s.true) }

pub returns : goal.returns
returns c =
    record { result = (named_read _ _ _ c.if-n-s.false _ c.read_word.ensures.result) }
