-- Answers of `layout_code::header::rest_differs`.
use borrow.Author.Rules.{rules}
use Rattle.words.specs.Word.{word}
use Rattle.layout.proofs.Headers.{rest_in_one}
use Rattle.layout_code.proofs.header.rest_differs.Goals as goal

-- `layout_code::header::rest_differs` meets its contract. Assumes nothing.
pub returns : goal.returns
returns c =
    rest_in_one (word c.args.image.now) _ _ _ _ _ _ c.read_word.ensures.result
    c.read_word-2.ensures.result c.read_word-3.ensures.result c.read_word-4.ensures.result
    c.read_word-5.ensures.result c.read_word-6.ensures.result
