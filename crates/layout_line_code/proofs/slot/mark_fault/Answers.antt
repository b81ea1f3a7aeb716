-- Answers of `layout_line_code::slot::mark_fault`.
use borrow.Author.Rules.{rules}
use Rattle.layout.proofs.Verdicts.{bad_mark, other_mark}
use Rattle.layout_line_code.proofs.slot.mark_fault.Goals as goal

pub returns-then-read_word-gt1 : goal.returns-then-read_word-gt1
returns-then-read_word-gt1 c =
    record { result = (search bad_mark) }

pub returns : goal.returns
returns c =
    record { result = (search other_mark) }
