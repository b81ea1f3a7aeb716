-- Answers of `book_plan_code::orders::order_with`.
use Rattle.book.specs.inner.Courses.{seek_says}
use Rattle.book.proofs.Seeks.{no-state, all_filled, is-order}
use Rattle.book_plan_code.proofs.orders.order_with.Goals as goal
use Rattle.book_plan_code.proofs.orders.order_with.Goals.{then-not-is_state-via-then-not-is_state, then-not-is_state-via-else-not-is_state+then-ordered-filled}

pub returns-then-not-is_state : goal.returns-then-not-is_state
unfolding seek_says
returns-then-not-is_state c =
    elim c.then-not-is_state.branch [
      | then-not-is_state-via-then-not-is_state w ↦ search no-state
      | then-not-is_state-via-else-not-is_state+then-ordered-filled w ↦ search all_filled
    ]

pub returns : goal.returns
unfolding seek_says
returns c =
    search is-order
