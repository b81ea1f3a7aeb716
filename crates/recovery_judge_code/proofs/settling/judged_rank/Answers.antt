-- Answers of `recovery_judge_code::settling::judged_rank`.
use mathlib.Core.Path.{refl}
use Rattle.recovery.proofs.Settles.{judging_low, judging_full, judging_next, judging_end}
use Rattle.recovery_judge_code.proofs.settling.judged_rank.Goals as goal

pub returns-then-rank-lt2 : goal.returns-then-rank-lt2
returns-then-rank-lt2 c =
    record {
      result = judging_low _ _ _ _ _ _ c.loop-i.invariant refl c.loop-i-test.true _ c.entry_at-rank.ensures.result c.if-rank-lt2.true;
    }

pub returns-then-is_full : goal.returns-then-is_full
returns-then-is_full c =
    record {
      result = judging_full _ _ _ _ _ _ c.loop-i.invariant refl c.loop-i-test.true _ c.entry_at-rank.ensures.result c.if-rank-lt2.false _
          c.is_full.ensures c.if-is_full.true;
    }

pub loop-i-preserved : goal.loop-i-preserved
loop-i-preserved c =
    judging_next _ _ _ _ _ _ c.loop-i.invariant refl c.loop-i-test.true _ c.entry_at-rank.ensures.result c.if-rank-lt2.false _
    c.is_full.ensures c.if-is_full.false

pub returns : goal.returns
returns c =
    record { result = judging_end _ _ _ _ _ c.loop-i.invariant c.loop-i-test.false }
