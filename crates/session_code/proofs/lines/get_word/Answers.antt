-- Answers of `session_code::lines::get_word`.
use Rattle.session.specs.Step.{word_found}
use borrow.Author.Rules.{rules}
use Rattle.session_code.proofs.lines.get_word.Goals as goal

pub get_by-requires : goal.get_by-requires
unfolding word_found
get_by-requires c =
    search rules

pub returns : goal.returns
unfolding word_found
returns c =
    record { result = (search rules) }
