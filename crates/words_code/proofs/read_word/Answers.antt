-- Answers of `words_code::read_word`.
use borrow.Author.Rules.{rules}
use Rattle.words.specs.Word.{word}
use Rattle.words_code.proofs.read_word.Goals as goal

pub join-requires : goal.join-requires
unfolding word
join-requires c =
    search rules

pub returns : goal.returns
unfolding word
returns c =
    record { result = (c.join.ensures.result) }
