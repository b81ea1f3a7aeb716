-- Answers of `recovery_judge_code::comparing::compare`.
use Rattle.recovery.proofs.Compares.{compare_near, compare_runs, compare_keys, compared_none, compared_runs, compared_keys}
use Rattle.recovery_judge_code.proofs.comparing.compare.Goals as goal

pub any_shared-requires : goal.any_shared-requires
any_shared-requires c =
    compare_near _ _ _ _ _ _ c.args.order.now _ _ _ c.requires c.order_by_rank.ensures.result

pub returns-else-any_shared : goal.returns-else-any_shared
returns-else-any_shared c =
    record {
      result = rw c.if-any_shared.false (compared_none _ _ _ _ _ _ c.args.order.now _ _ _ c.requires c.order_by_rank.ensures.result _
          c.order_by_key.ensures.result _ _ c.any_shared.ensures (c.if-any_shared.false));
    }

pub any_run_fault-requires : goal.any_run_fault-requires
any_run_fault-requires c =
    compare_runs _ _ _ _ _ _ c.args.order.now _ _ _ c.requires c.order_by_rank.ensures.result

pub returns-then-any_run_fault : goal.returns-then-any_run_fault
returns-then-any_run_fault c =
    record {
      result = rw c.if-any_run_fault.true (compared_runs _ _ _ _ _ _ c.args.order.now _ _ _ c.requires c.order_by_rank.ensures.result _
          c.order_by_key.ensures.result _ _ c.any_run_fault.ensures c.if-any_run_fault.true);
    }

pub any_key_twice-requires : goal.any_key_twice-requires
any_key_twice-requires c =
    compare_keys _ _ _ _ _ _ c.args.order.now _ _ _ c.requires c.order_by_rank.ensures.result _
    c.order_by_key.ensures.result

pub returns-else-any_run_fault : goal.returns-else-any_run_fault
returns-else-any_run_fault c =
    record {
      result = (compared_keys _ _ _ _ _ _ c.args.order.now _ _ _ c.requires c.order_by_rank.ensures.result _
          c.order_by_key.ensures.result _ _ c.any_run_fault.ensures c.if-any_run_fault.false _
          c.any_key_twice.ensures);
    }
