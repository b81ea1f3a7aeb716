-- Answers of `calls_own_code::own::own_remove`.
use borrow.Author.Rules.{rules}
use Rattle.calls.proofs.Changes.{key_alone}
use Rattle.calls_own_code.proofs.own.own_remove.Goals as goal

pub shape_of-heads : goal.shape_of-heads
shape_of-heads c =
    c.remove_in.auto.heads

pub shape_of-next : goal.shape_of-next
shape_of-next c =
    c.remove_in.auto.next

pub returns : goal.returns
returns c =
    record { result = (rw (key_alone c.args.key) at c.remove_in.ensures.result); moved = (c.remove_in.ensures.moved) }
