-- Answers of `calls_write_layout_code::remove::remove_in_layout`.
use borrow.Author.Rules.{rules}
use Rattle.layout.proofs.Layouts.{layout_numbered}
use Rattle.calls_write_layout_code.proofs.remove.remove_in_layout.Goals as goal

pub remove_in-requires : goal.remove_in-requires
remove_in-requires c =
    rw c.layout_number.ensures.result (layout_numbered c.args.wide)

pub shape_of-heads : goal.shape_of-heads
shape_of-heads c =
    c.remove_in.auto.heads

pub shape_of-next : goal.shape_of-next
shape_of-next c =
    c.remove_in.auto.next

pub returns : goal.returns
returns c =
    rw c.layout_number.ensures.result at
    c.remove_in.ensures
