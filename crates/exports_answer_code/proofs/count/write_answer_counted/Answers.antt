-- Answers of `exports_answer_code::count::write_answer_counted`.
use Rattle.prelude.specs.Answer.{given_or}
use Rattle.interface.specs.Set.{count_values, count_end}
use Rattle.exports.specs.Call.{returned_with}
use Rattle.exports.specs.Count.{count_call}
use Rattle.exports_answer_code.proofs.count.write_answer_counted.Goals as goal

pub returns-in-Refused : goal.returns-in-Refused
unfolding returned_with given_or count_call count_end
returns-in-Refused c =
    record { result = λ heads next. rw (c.refused_with.ensures.result, c.in-Refused.is) }

pub returns-in-Counted : goal.returns-in-Counted
unfolding returned_with given_or count_call count_end count_values
returns-in-Counted c =
    record { result = λ heads next. rw c.in-Counted.is }
