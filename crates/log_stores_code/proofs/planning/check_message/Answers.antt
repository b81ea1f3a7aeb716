-- Answers of `log_stores_code::planning::check_message`.
use Rattle.prelude.proofs.Tests.{tests}
use Rattle.prelude.specs.Refusal.{refuse_if}
use Rattle.message_log.specs.Append.{message_fault}
use Rattle.log_stores_code.proofs.planning.check_message.Goals as goal

pub returns-in-1-to-384 : goal.returns-in-1-to-384
unfolding message_fault refuse_if
returns-in-1-to-384 c =
    search tests

pub returns-in_default : goal.returns-in_default
unfolding message_fault refuse_if
returns-in_default c =
    search tests

pub returns-in_default-2 : goal.returns-in_default-2
unfolding message_fault refuse_if
returns-in_default-2 c =
    search tests
