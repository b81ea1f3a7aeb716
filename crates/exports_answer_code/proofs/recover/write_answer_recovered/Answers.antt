-- Answers of `exports_answer_code::recover::write_answer_recovered`.
use Rattle.interface.specs.Set.{recover_end}
use Rattle.exports.specs.Call.{returned_with, given_or_lent, recover_call}
use Rattle.exports_answer_code.proofs.recover.write_answer_recovered.Goals as goal

pub returns-in-Refused : goal.returns-in-Refused
unfolding returned_with given_or_lent recover_call recover_end
returns-in-Refused c =
    record { result = λ heads next. rw (c.refused_with.ensures.result, c.in-Refused.is) }

pub returns-in-Rebuilt : goal.returns-in-Rebuilt
unfolding returned_with given_or_lent recover_call recover_end
returns-in-Rebuilt c =
    record { result = λ heads next. rw (c.in-Rebuilt.is, c.keep_state.ensures.result, c.keep_invalidations.ensures) }
