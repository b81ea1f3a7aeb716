-- THE RESTART RULE OF THE LOG: the log as a library of the machine, what it promises, and the rule. Document 02, A.10:
-- "Its plain machine is the list of accepted messages that no cut made absent".
use Rattle.std.specs.Prelude.{false, List, [], ℕ, ◌*◌, ◌≤◌, length, replicate}
use Rattle.prelude.specs.Answer.{refuses}
use Rattle.message_log.specs.Event.{LogCall, a_recovery, log_stores, Messages, expected_log_refusal, plain_append, FitsCall}
use Rattle.message_log.specs.Rule.{Shows, LogCallCorrect}
use Rattle.restart_machine.specs.Machine.{Library, Duties, Sufficient}
use Rattle.restart_machine.specs.Rule.{Promise, RestartRule}

-- the lists for recovery's stores, lent by a start; "with recovery's list long enough": K entries are
pub record LentLists (cells : ℕ) : Type 0 where
  pub at : List ℕ
  pub value : List ℕ
  pub enough : (cells ≤ length at) × (cells ≤ length value)

-- a call whose message is bytes
pub record LogRequest : Type 0 where
  pub call : LogCall
  pub fits : FitsCall call

-- the program holds nothing of the log in its own memory
abbrev pub log_library : (cells : ℕ) → Library (LentLists cells) Unit LogRequest
log_library cells =
    record {
      recovery = λ area lent. record { stores = log_stores area (a_recovery lent.at lent.value); held = tt };
      call = λ area held asked. record { stores = log_stores area asked.call; held = tt };
    }

-- what the log promises in an area of K cells, by the plain list
abbrev pub log_promise : (cells : ℕ) → Promise (LentLists cells) Unit LogRequest Messages
log_promise cells =
    record {
      after = λ taken log.
          let call : LogCall = taken.request.call in
          plain_append (refuses (expected_log_refusal taken.image log call)) false call log;
      Recovers = Shows cells;
      RecoveryCorrect = λ area lent log. LogCallCorrect area log (a_recovery lent.at lent.value);
      RequestCorrect = λ area held log asked. LogCallCorrect area log asked.call;
    }

-- THE RESTART RULE OF THE LOG: from an area of zeros that is durable, for every program that does its duties
abbrev pub LogRestartRule : Type 0
LogRestartRule =
    (cells : ℕ) → 2 ≤ cells → cells ≤ 1000 → (d : Duties) → Sufficient d
    → RestartRule (log_promise cells) d (log_library cells) (replicate (448 * cells) 0) []
