-- Answers of `log_stores_code::planning::number_after`.
use Rattle.std.proofs.Common.{suc, ◌^◌, sym, arith}
use borrow.Author.Tests.{le-leb, lt-leb}
use Rattle.prelude.proofs.Refusals.{refuse_if-true, refuse_if-false}
use Rattle.layout.specs.Line.{version_fault}
use Rattle.log_stores_code.proofs.planning.number_after.Goals as goal

pub returns-then-last-clause-fault : goal.returns-then-last-clause-fault
unfolding version_fault
returns-then-last-clause-fault c = sym (refuse_if-true _ 9 0 (le-leb (2 ^ 63) (suc c.args.last) (omega (arith, c.if-last.true))))

pub returns-clause-fault : goal.returns-clause-fault
unfolding version_fault
returns-clause-fault c = sym (refuse_if-false _ 9 0 (lt-leb (2 ^ 63) (suc c.args.last) (omega (arith, c.if-last.false))))
