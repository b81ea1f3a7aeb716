-- Answers of `calls_basket_write_code::records::kind_by`.
use borrow.Author.Rules.{rules}
use Rattle.prelude.proofs.Tests.{tests}
use Rattle.calls.specs.Basket.{kind_by}
use Rattle.calls_basket_write_code.proofs.records.kind_by.Goals as goal

pub returns-in-Write : goal.returns-in-Write
unfolding kind_by
returns-in-Write c =
    search tests

pub returns-in-Remove : goal.returns-in-Remove
unfolding kind_by
returns-in-Remove c =
    search tests
