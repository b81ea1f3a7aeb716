-- Answers of `exports_code::format::write_answer_formatted`.
use Rattle.interface.specs.Set.{format_says}
use Rattle.prelude.specs.Answer.{refusal_in}
use Rattle.exports.specs.Call.{answered, format_call}
use Rattle.exports_code.proofs.format.write_answer_formatted.Goals as goal

pub returns-in-Refused : goal.returns-in-Refused
unfolding refusal_in answered format_call format_says
returns-in-Refused c = record { result = λ bytes. rw c.in-Refused.is }

pub returns-in-Slots : goal.returns-in-Slots
unfolding refusal_in answered format_call format_says
returns-in-Slots c = record { result = λ bytes. rw c.in-Slots.is }
