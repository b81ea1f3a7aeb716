-- Answers of `book_change_code::change::by_change`.
use borrow.Author.Rules.{rules}
use Rattle.book.proofs.Courses.{answered}
use Rattle.book_change_code.proofs.change.by_change.Goals as goal

-- `book_change_code::change::by_change` meets its contract. Assumes nothing.
pub returns : goal.returns
returns c =
    λ at value heads next. answered _ _ c.outcome_of.ensures
