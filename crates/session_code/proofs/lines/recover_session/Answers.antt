-- Answers of `session_code::lines::recover_session`.
use Rattle.interface.specs.Set.{recover_end}
use Rattle.interface.proofs.Images.{few_invalidations_left}
use Rattle.text.specs.inner.Output.{reply_says}
use Rattle.session.specs.Step.{recover_step, recovered_by, recovered_as}
use Rattle.session_code.proofs.lines.recover_session.Goals as goal

-- `session_code::lines::recover_session` meets its contract. Assumes nothing.
pub open_slots-requires : goal.open_slots-requires
open_slots-requires c =
    few_invalidations_left 1 _ _ _ _ _ _ _ c.recover-answer.ensures.result

pub returns-in-Rebuilt : goal.returns-in-Rebuilt
unfolding recover_step recovered_by recovered_as recover_end reply_says
returns-in-Rebuilt c =
    rw (
      ← c.recover-answer.ensures.result,
      c.in-Rebuilt.is,
      c.open_slots.ensures,
    )

pub returns-in-Refused : goal.returns-in-Refused
unfolding recover_step recovered_by recovered_as recover_end reply_says
returns-in-Refused c =
    rw (
      ← c.recover-answer.ensures.result,
      c.in-Refused.is,
      c.open_slots.ensures,
      c.empty_session.ensures.result,
    )
