-- Answers of `book_plan_code::orders::is_state`.
use Rattle.prelude.proofs.Tests.{tests}
use Rattle.book.specs.Orders.{is_state}
use Rattle.book_plan_code.proofs.orders.is_state.Goals as goal

pub returns-then-state-eq1 : goal.returns-then-state-eq1
unfolding is_state
returns-then-state-eq1 c =
    search tests

pub returns-else-state-eq1 : goal.returns-else-state-eq1
unfolding is_state
returns-else-state-eq1 c =
    search tests
