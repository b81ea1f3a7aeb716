-- Answers of `calls_write_code::write::insert`.
use borrow.Author.Rules.{rules}
use Rattle.calls.proofs.Changes.{key_alone}
use Rattle.calls_write_code.proofs.write.insert.Goals as goal

pub shape_of-heads : goal.shape_of-heads
shape_of-heads c =
    c.insert_in.auto.heads

pub shape_of-next : goal.shape_of-next
shape_of-next c =
    c.insert_in.auto.next

pub returns : goal.returns
returns c =
    record { result = (rw (key_alone c.args.key) at c.insert_in.ensures.result); moved = (c.insert_in.ensures.moved) }
