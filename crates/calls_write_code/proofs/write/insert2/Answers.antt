-- Answers of `calls_write_code::write::insert2`.
use borrow.Author.Rules.{rules}
use Rattle.calls_write_code.proofs.write.insert2.Goals as goal

pub shape_of-heads : goal.shape_of-heads
shape_of-heads c =
    c.insert_in.auto.heads

pub shape_of-next : goal.shape_of-next
shape_of-next c =
    c.insert_in.auto.next

pub returns : goal.returns
returns c =
    c.insert_in.ensures
