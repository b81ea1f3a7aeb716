-- Answers of `calls_write_code::write::replace`.
use borrow.Author.Rules.{rules}
use Rattle.calls.proofs.Changes.{key_alone}
use Rattle.calls_write_code.proofs.write.replace.Goals as goal

pub shape_of-heads : goal.shape_of-heads
shape_of-heads c =
    c.replace_in.auto.heads

pub shape_of-next : goal.shape_of-next
shape_of-next c =
    c.replace_in.auto.next

pub returns : goal.returns
returns c =
    record { result = (rw (key_alone c.args.key) at c.replace_in.ensures.result); moved = (c.replace_in.ensures.moved) }
