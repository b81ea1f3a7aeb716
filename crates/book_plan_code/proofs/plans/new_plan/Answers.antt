-- Answers of `book_plan_code::plans::new_plan`.
use mathlib.Core.Path.{ap, ◌∙◌}
use borrow.Author.Rules.{rules}
use Rattle.prelude.specs.Answer.{Answer}
use Rattle.book.specs.inner.Courses.{new_course}
use Rattle.interface.specs.Set.{ReadOnlyResult}
use Rattle.book_plan_code.proofs.plans.new_plan.Goals as goal

-- `book_plan_code::plans::new_plan` meets its contract. Assumes nothing.
pub returns : goal.returns
returns c =
    record { plan = (c.new_located.ensures ∙ ap (new_course _) (ap (λ (x : ReadOnlyResult). x.answer) c.locate_in_layout-answer.ensures.result)) }
