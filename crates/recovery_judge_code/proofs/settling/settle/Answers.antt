-- Answers of `recovery_judge_code::settling::settle`.
use Rattle.recovery.proofs.Settles.{settle_last, settled_none}
use Rattle.recovery_judge_code.proofs.settling.settle.Goals as goal

pub entry_at-requires : goal.entry_at-requires
entry_at-requires c =
    settle_last _ _ _ _ _ _ _ _ _ c.requires

pub returns-then-entry_at-limit : goal.returns-then-entry_at-limit
returns-then-entry_at-limit c =
    record { result = (settled_none _ _ _ _ _ _ _ _ _ c.requires _ _ _ c.entry_at.ensures.result c.if-entry_at-limit.true _ c.no_invalidations.ensures.result) }
