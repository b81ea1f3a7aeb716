-- Answers of `log_stores_code::invalidation::fill_invalidation`.
use mathlib.Core.Path.{refl, ap, ◌∙◌}
use Rattle.layout.specs.Line.{first_word}
use Rattle.message_log.proofs.Recoveries.{open_room, open_taken, open_skipped}
use Rattle.log_stores_code.proofs.invalidation.fill_invalidation.Goals as goal

pub bounds-at-n : goal.bounds-at-n
bounds-at-n c =
    (open_room _ _ _ _ _ _ _ c.is_above.ensures c.if-is_above.true c.requires.room).0

pub bounds-value-n : goal.bounds-value-n
bounds-value-n c =
    (open_room _ _ _ _ _ _ _ c.is_above.ensures
    c.if-is_above.true c.requires.room).1

pub returns-then-is_above : goal.returns-then-is_above
returns-then-is_above c =
    open_taken _ _ _ _ _ _ _ _ _ _ _ c.is_above.ensures c.if-is_above.true refl
    (c.first_word.ensures.result ∙ ap first_word c.read_word.ensures.result) refl refl

pub returns : goal.returns
returns c =
    open_skipped _ _ _ _ _ _ _ c.is_above.ensures c.if-is_above.false
