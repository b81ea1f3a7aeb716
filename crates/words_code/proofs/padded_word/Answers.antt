-- Answers of `words_code::padded_word`.
use native.Mathlib.Omega.{arith}
use mathlib.Core.Path.{sym}
use borrow.Author.Rules.{rules}
use Rattle.words.specs.Word.{word}
use Rattle.words.proofs.Laws.{word_past}
use Rattle.words_code.proofs.padded_word.Goals as goal

pub returns-then-value-at : goal.returns-then-value-at
returns-then-value-at c =
    record { result = (sym (word_past _ _ (omega arith))) }

pub returns : goal.returns
unfolding word
returns c =
    record { result = (search rules) }
