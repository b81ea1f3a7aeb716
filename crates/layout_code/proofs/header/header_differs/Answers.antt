-- Answers of `layout_code::header::header_differs`.
use borrow.Author.Rules.{rules}
use Rattle.layout.proofs.Headers.{first_other, second_other, rest_decides}
use Rattle.layout_code.proofs.header.header_differs.Goals as goal

pub returns-then-read_word-n : goal.returns-then-read_word-n
returns-then-read_word-n c =
    first_other _ _ _ _ c.read_word.ensures.result c.if-read_word-n.true

pub returns-then-read_word-l : goal.returns-then-read_word-l
returns-then-read_word-l c =
    second_other _ _ _ _ c.read_word-2.ensures.result c.if-read_word-l.true

pub returns : goal.returns
returns c =
    rest_decides _ _ _ _ _ c.read_word.ensures.result
    c.read_word-2.ensures.result c.if-read_word-n.false c.if-read_word-l.false _ c.rest_differs.ensures
