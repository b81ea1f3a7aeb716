-- Answers of `log_list_code::made::stored_count`.
use Rattle.std.proofs.Common.{sym, ap}
use Rattle.message_log.specs.inner.List.{stored_count}
use Rattle.log_list_code.proofs.made.stored_count.Goals as goal

pub returns-in-Ok : goal.returns-in-Ok
unfolding stored_count
returns-in-Ok c = sym (ap stored_count c.in-Ok.is)

pub returns-in-Err : goal.returns-in-Err
unfolding stored_count
returns-in-Err c = sym (ap stored_count c.in-Err.is)
