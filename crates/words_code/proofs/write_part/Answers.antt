-- Answers of `words_code::write_part`.
use mathlib.Core.Path.{◌∙◌}
use borrow.Author.Rules.{rules}
use Rattle.words.proofs.Laws.{bytes_whole, bytes_left}
use Rattle.words_code.proofs.write_part.Goals as goal

-- `words_code::write_part` meets its contract. Assumes nothing.
pub returns-then-i-n : goal.returns-then-i-n
returns-then-i-n c =
    record { result = (c.write_word.ensures.result ∙ bytes_whole _ _ _ _ c.if-i-n.true) }

pub returns : goal.returns
returns c =
    record { result = (c.write_bytes.ensures ∙ bytes_left _ _ _ _ c.requires.0 c.if-i-n.false) }
