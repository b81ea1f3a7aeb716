-- Answers of `calls_basket_plan_code::totals::inserts_by`.
use mathlib.Core.Path.{sym, ap, ◌∙◌}
use borrow.Author.Rules.{rules}
use Rattle.prelude.proofs.Tests.{tests}
use Rattle.calls.specs.BasketRefusals.{inserts_by}
use Rattle.calls_basket_plan_code.proofs.totals.inserts_by.Goals as goal

pub inserts_of-requires : goal.inserts_of-requires
unfolding inserts_by
inserts_of-requires c =
    search rules

-- `calls_basket_plan_code::totals::inserts_by` meets its contract. Assumes nothing.
pub returns-in-Write : goal.returns-in-Write
unfolding inserts_by
returns-in-Write c =
    c.inserts_of.ensures.result ∙ sym (ap inserts_by c.in-Write.is)

pub returns-in-Remove : goal.returns-in-Remove
unfolding inserts_by
returns-in-Remove c =
    search tests
