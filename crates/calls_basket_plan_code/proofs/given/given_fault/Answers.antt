-- Answers of `calls_basket_plan_code::given::given_fault`.
use Rattle.calls.proofs.BasketChecks.{count_few, given_count, given_twice, given_lists}
use borrow.Author.Rules.{rules}
use Rattle.calls_basket_plan_code.proofs.given.given_fault.Goals as goal

-- `calls_basket_plan_code::given::given_fault` meets its contract. Assumes nothing.
pub returns-then-number-ne0 : goal.returns-then-number-ne0
returns-then-number-ne0 c =
    record { result = (given_count _ _ _ _ _ _ c.key_count_fault-number.ensures c.if-number-ne0.true) }

pub any_twice-requires : goal.any_twice-requires
any_twice-requires c =
    (count_few _ _ c.key_count_fault-number.ensures c.if-number-ne0.false).1

pub returns-then-any_twice : goal.returns-then-any_twice
returns-then-any_twice c =
    record {
      result = (given_twice _ _ _ _ _ _ c.key_count_fault-number.ensures c.if-number-ne0.false _ c.any_twice.ensures
          c.if-any_twice.true);
    }

pub lists_fault-requires : goal.lists_fault-requires
lists_fault-requires c =
    (count_few _ _ c.key_count_fault-number.ensures c.if-number-ne0.false).1

pub returns : goal.returns
returns c =
    record {
      result = (given_lists _ _ _ _ _ _ c.key_count_fault-number.ensures c.if-number-ne0.false _ c.any_twice.ensures
          c.if-any_twice.false _ c.lists_fault.ensures);
    }
