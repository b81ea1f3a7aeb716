-- Answers of `calls_locate_code::locate::locate_in_layout`.
use borrow.Author.Rules.{rules}
use Rattle.layout.proofs.Layouts.{layout_numbered}
use Rattle.calls_locate_code.proofs.locate.locate_in_layout.Goals as goal

-- `calls_locate_code::locate::locate_in_layout` meets its contract. Assumes nothing.
pub locate_in-requires : goal.locate_in-requires
locate_in-requires c =
    rw c.layout_number.ensures.result (layout_numbered c.args.wide)

pub returns : goal.returns
returns c =
    record { result = (rw c.layout_number.ensures.result at c.locate_in.ensures.result) }
