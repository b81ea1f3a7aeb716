-- Answers of `book_change_code::change::outcome_of`.
use borrow.Author.Rules.{rules}
use Rattle.interface.specs.Set.{change_says}
use Rattle.book.specs.Steps.{book_says, change_answers}
use Rattle.book_change_code.proofs.change.outcome_of.Goals as goal

pub returns-in-Stored : goal.returns-in-Stored
unfolding book_says change_answers change_says
returns-in-Stored c =
    rw c.in-Stored.is

pub returns-in-Absent : goal.returns-in-Absent
unfolding book_says change_answers change_says
returns-in-Absent c =
    rw c.in-Absent.is

pub returns-in-Refused : goal.returns-in-Refused
unfolding book_says change_answers change_says
returns-in-Refused c =
    rw c.in-Refused.is
