-- Answers of `calls_basket_plan_code::given::lists_fault`.
use borrow.Author.Rules.{rules}
use Rattle.prelude.proofs.Tests.{tests}
use Rattle.prelude.specs.Refusal.{refuse_if}
use Rattle.calls.specs.BasketRefusals.{lists_fault}
use Rattle.calls_basket_plan_code.proofs.given.lists_fault.Goals as goal

pub returns-then-at-count : goal.returns-then-at-count
unfolding lists_fault refuse_if
returns-then-at-count c =
    search tests

pub returns-then-words-count : goal.returns-then-words-count
unfolding lists_fault refuse_if
returns-then-words-count c =
    search tests

pub returns : goal.returns
unfolding lists_fault refuse_if
returns c =
    search tests
