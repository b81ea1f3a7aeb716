-- Answers of `exports_answer_code::recover::keep_invalidations`.
use borrow.Author.Rules.{rules}
use Rattle.exports.specs.Invalidation.{invalidations_from}
use Rattle.exports_answer_code.proofs.recover.keep_invalidations.Goals as goal

pub returns : goal.returns
unfolding invalidations_from
returns c =
    search rules
