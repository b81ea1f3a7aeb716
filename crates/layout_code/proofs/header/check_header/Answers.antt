-- Answers of `layout_code::header::check_header`.
use Rattle.std.proofs.Common.{rules}
use Rattle.layout.proofs.Headers.{header_none, header_other, header_right}
use Rattle.layout_code.proofs.header.check_header.Goals as goal

pub returns-then-not-header_differs : goal.returns-then-not-header_differs
returns-then-not-header_differs c = search header_right

pub returns-then-read_word-eq0 : goal.returns-then-read_word-eq0
returns-then-read_word-eq0 c = search header_none

pub returns : goal.returns
returns c = search header_other
