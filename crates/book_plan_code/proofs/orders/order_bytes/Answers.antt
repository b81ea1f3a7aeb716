-- Answers of `book_plan_code::orders::order_bytes`.
use borrow.Author.Rules.{rules}
use Rattle.book.specs.Orders.{order_bytes}
use Rattle.book_plan_code.proofs.orders.order_bytes.Goals as goal

-- `book_plan_code::orders::order_bytes` meets its contract. Assumes nothing.
pub returns : goal.returns
unfolding order_bytes
returns c =
    record { result = (rw (← c.write_word.ensures.result, ← c.write_word-2.ensures.result) c.write_word-3.ensures.result) }
