-- Answers of `calls_basket_write_code::records::size_by`.
use borrow.Author.Rules.{rules}
use Rattle.prelude.proofs.Tests.{tests}
use Rattle.calls.specs.inner.Basket.{size_by}
use Rattle.calls_basket_write_code.proofs.records.size_by.Goals as goal

pub returns-in-Write : goal.returns-in-Write
unfolding size_by
returns-in-Write c =
    search tests

pub returns-in-Remove : goal.returns-in-Remove
unfolding size_by
returns-in-Remove c =
    search tests
