-- Answers of `stores_code::make::make_stores`.
use Rattle.stores.proofs.Making.{making_next, making_end}
use Rattle.stores_code.proofs.make.make_stores.Goals as goal

pub loop-k-preserved : goal.loop-k-preserved
loop-k-preserved c =
    search making_next

pub returns : goal.returns
returns c =
    record { result = (search making_end) }
