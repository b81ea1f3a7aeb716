-- Answers of `calls_basket_plan_code::olds::action_fault`.
use Rattle.calls.proofs.BasketChecks.{write_by, remove_new, remove-held}
use borrow.Author.Rules.{rules}
use Rattle.calls_basket_plan_code.proofs.olds.action_fault.Goals as goal

-- `calls_basket_plan_code::olds::action_fault` meets its contract. Assumes nothing.
pub returns-then-old-eq0 : goal.returns-then-old-eq0
returns-then-old-eq0 c =
    remove_new _ _ c.in-Remove.is c.if-old-eq0.true

pub returns-in-Write : goal.returns-in-Write
returns-in-Write c =
    write_by _ c.args.old _ c.in-Write.is _ c.key_fault.ensures.result

pub returns-else-old-eq0 : goal.returns-else-old-eq0
returns-else-old-eq0 c =
    remove-held _ _ c.in-Remove.is c.if-old-eq0.false
