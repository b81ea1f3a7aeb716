-- Answers of `recovery_fault_code::fault::found_fault`.
use borrow.Author.Rules.{rules}
use borrow.Author.Tests.{eq-eqb, ne_eqb, lt-ltb, le-ltb}
use Rattle.prelude.proofs.Refusals.{refuse_if-true, refuse_if-false, or_else_first, or_else_later}
use Rattle.table.specs.Table.{broken_limit}
use Rattle.recovery.specs.inner.Judge.{found_fault}
use Rattle.recovery_fault_code.proofs.fault.found_fault.Goals as goal

pub returns-then-mark : goal.returns-then-mark
unfolding found_fault broken_limit
returns-then-mark c =
    record { result = (search (refuse_if-true, rules)) }

pub returns-then-fault-ne0 : goal.returns-then-fault-ne0
unfolding found_fault broken_limit
returns-then-fault-ne0 c =
    record { result = (search (refuse_if-false, or_else_first, rules)) }

pub returns-then-shared : goal.returns-then-shared
unfolding found_fault broken_limit
returns-then-shared c =
    record { result = (search (refuse_if-true, refuse_if-false, or_else_later, rules)) }

pub returns-then-broken-gt-BROKEN_LIMIT : goal.returns-then-broken-gt-BROKEN_LIMIT
unfolding found_fault broken_limit
returns-then-broken-gt-BROKEN_LIMIT c =
    record { result = (search (refuse_if-true, refuse_if-false, or_else_later, rules, lt-ltb 8 _ c.if-broken-gt-BROKEN_LIMIT.true)) }

pub returns-then-live-n : goal.returns-then-live-n
unfolding found_fault broken_limit
returns-then-live-n c =
    record {
      result =
          (search (refuse_if-true, refuse_if-false, or_else_later, rules, le-ltb 8 _ c.if-broken-gt-BROKEN_LIMIT.false, eq-eqb _ _ c.if-live-n.true));
    }

pub returns : goal.returns
unfolding found_fault broken_limit
returns c =
    record { result = (search (refuse_if-false, or_else_later, rules, le-ltb 8 _ c.if-broken-gt-BROKEN_LIMIT.false, ne_eqb _ _ c.if-live-n.false)) }
