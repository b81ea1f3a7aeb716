-- Answers of `calls_write_code::write::replace2`.
use borrow.Author.Rules.{rules}
use Rattle.calls_write_code.proofs.write.replace2.Goals as goal

pub shape_of-heads : goal.shape_of-heads
shape_of-heads c =
    c.replace_in.auto.heads

pub shape_of-next : goal.shape_of-next
shape_of-next c =
    c.replace_in.auto.next

pub returns : goal.returns
returns c =
    c.replace_in.ensures
