-- Answers of `slot_counts_code::count_accepted`.
use Rattle.slot_counts.proofs.Accepted.{accepted_void, accepted_puts, accepted_live, accepted_removes, accepted_counts}
use Rattle.slot_counts_code.proofs.count_accepted.Goals as goal

pub void_removes-removes-requires : goal.void_removes-removes-requires
void_removes-removes-requires c =
    c.requires.opens

pub overflow_sub-result : goal.overflow_sub-result
overflow_sub-result c =
    accepted_void _ _ _ _ _ c.requires _ c.void_removes-removes.ensures.result

pub overflow_sub-result-2 : goal.overflow_sub-result-2
overflow_sub-result-2 c =
    accepted_puts _ _ _ _ _ c.requires _ c.void_removes-removes.ensures.result

pub overflow_sub-result-3 : goal.overflow_sub-result-3
overflow_sub-result-3 c =
    accepted_live _ _ _ _ _ c.requires _ c.void_removes-removes.ensures.result

pub overflow_sub-result-4 : goal.overflow_sub-result-4
overflow_sub-result-4 c =
    accepted_removes _ _ _ _ _ c.requires _ c.void_removes-removes.ensures.result

pub returns : goal.returns
returns c =
    accepted_counts _ _ _ _ _ c.requires _ c.void_removes-removes.ensures.result
