-- Answers of `recovery_rebuild_code::rebuilding::recover_with`.
use Rattle.recovery.proofs.Recovers.{slots_answered, rebuild_ordered, rebuild_top}
use Rattle.recovery_rebuild_code.proofs.rebuilding.recover_with.Goals as goal

pub rebuild_accepted-state-requires : goal.rebuild_accepted-state-requires
rebuild_accepted-state-requires c =
    λ z. (
      rebuild_ordered _ _ _ _ _ _ _ _ _ _ _ _ _ _ _ c.requires.ready.0 c.requires.ready.1 c.judge_slots-judged.ensures.result
          c.judge_slots-judged.auto.places z,
      rebuild_top _ _ _ _ _ _ _ c.judge_slots-judged.ensures.result z,
    )

pub returns : goal.returns
returns c =
    record {
      result = (slots_answered _ _ _ _ _ _ _ _ _ _ _ _ c.requires.ready.0 c.judge_slots-judged.ensures.result c.rebuild_accepted-state.ensures
          c.recover_answer.ensures);
    }
