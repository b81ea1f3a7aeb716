-- THE RESTART RULE OF THE LOG WITH append_after: the same library, and what it promises, for a program that holds the
-- last number and lends it to append_after. Document 02, A.10.
use Rattle.std.specs.Prelude.{false, [], ℕ, ◌*◌, ◌≤◌, replicate}
use Rattle.prelude.specs.Answer.{refuses}
use Rattle.message_log.specs.Event.{LogCall, a_recovery, log_stores, Messages, expected_log_refusal, plain_append}
use Rattle.message_log.specs.Rule.{Shows, LogCallCorrect}
use Rattle.message_log.specs.RuleAfter.{last_after_call, LogCallAfterCorrect}
use Rattle.restart_machine.specs.Machine.{Library, Duties, Sufficient}
use Rattle.restart_machine.specs.Rule.{Promise, RestartRule}
use Rattle.log_restart.specs.Log.{LentLists, LogRequest}

-- what the program holds in its own memory is the last number; a start holds none before recovery has answered it
abbrev pub log_library_after : (cells : ℕ) → Library (LentLists cells) ℕ LogRequest
log_library_after cells =
    record {
      recovery = λ area lent.
          let call : LogCall = a_recovery lent.at lent.value in
          record { stores = log_stores area call; held = last_after_call area 0 call };
      call = λ area held asked. record { stores = log_stores area asked.call; held = last_after_call area held asked.call };
    }

-- what the log promises in an area of K cells, by the plain list; an append may be made by append_after, which is lent
-- what the program holds
abbrev pub log_promise_after : (cells : ℕ) → Promise (LentLists cells) ℕ LogRequest Messages
log_promise_after cells =
    record {
      after = λ taken log.
          let call : LogCall = taken.request.call in
          plain_append (refuses (expected_log_refusal taken.image log call)) false call log;
      Recovers = Shows cells;
      RecoveryCorrect = λ area lent log. LogCallCorrect area log (a_recovery lent.at lent.value);
      RequestCorrect = λ area held log asked. LogCallAfterCorrect area held log asked.call;
    }

-- THE RESTART RULE OF THE LOG WITH append_after: from an area of zeros that is durable, for every program that does its
-- duties
abbrev pub LogRestartRuleAfter : Type 0
LogRestartRuleAfter =
    (cells : ℕ) → 2 ≤ cells → cells ≤ 1000 → (d : Duties) → Sufficient d
    → RestartRule (log_promise_after cells) d (log_library_after cells) (replicate (448 * cells) 0) []
