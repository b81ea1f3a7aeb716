-- Answers of `calls_get_code::get::get_in_layout`.
use borrow.Author.Rules.{rules}
use Rattle.layout.proofs.Layouts.{layout_numbered}
use Rattle.calls_get_code.proofs.get.get_in_layout.Goals as goal

-- `calls_get_code::get::get_in_layout` meets its contract. Assumes nothing.
pub get_in-requires : goal.get_in-requires
get_in-requires c =
    rw c.layout_number.ensures.result (layout_numbered c.args.wide)

pub returns : goal.returns
returns c =
    rw c.layout_number.ensures.result at c.get_in.ensures
