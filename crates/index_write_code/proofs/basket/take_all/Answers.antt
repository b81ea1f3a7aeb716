-- Answers of `index_write_code::basket::take_all`.
use Rattle.index.proofs.BasketWrites.{leaving_on, leaving_ends}
use Rattle.index_write_code.proofs.basket.take_all.Goals as goal

pub loop-j-preserved : goal.loop-j-preserved
loop-j-preserved c =
    leaving_on _ _ _ _ _ _ _ _ c.loop-j.invariant c.loop-j-test.true _ _
    c.take_slot-rest.auto.next c.take_slot-rest.ensures.0 c.take_slot-rest.ensures.1

pub returns : goal.returns
returns c =
    record { result = (leaving_ends _ _ _ _ _ _ _ _ c.loop-j.invariant c.loop-j-test.false) }
