-- Answers of `calls_write_code::remove::remove2`.
use borrow.Author.Rules.{rules}
use Rattle.calls_write_code.proofs.remove.remove2.Goals as goal

pub shape_of-heads : goal.shape_of-heads
shape_of-heads c =
    c.remove_in.auto.heads

pub shape_of-next : goal.shape_of-next
shape_of-next c =
    c.remove_in.auto.next

pub returns : goal.returns
returns c =
    c.remove_in.ensures
