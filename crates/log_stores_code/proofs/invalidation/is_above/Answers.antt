-- Answers of `log_stores_code::invalidation::is_above`.
use mathlib.Core.Path.{◌∙◌}
use borrow.Author.Tests.{ne_eqb}
use Rattle.message_log.proofs.Recoveries.{above_open, above_whole}
use Rattle.log_stores_code.proofs.invalidation.is_above.Goals as goal

pub returns-then-read_word-stamp : goal.returns-then-read_word-stamp
returns-then-read_word-stamp c =
    above_whole _ _ _ _ _ c.read_word.ensures.result c.read_word-stamp.ensures.result c.if-read_word-stamp.true

pub returns-else-read_word-stamp : goal.returns-else-read_word-stamp
returns-else-read_word-stamp c =
    ne_eqb _ _ c.if-read_word-stamp.false
    ∙ above_open _ _ _ _ _ c.read_word.ensures.result c.read_word-stamp.ensures.result c.if-read_word-stamp.false
