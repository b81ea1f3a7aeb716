-- Answers of `index_write_code::basket::insert_linked`.
use lib.ListN.{length-set}
use Rattle.index.proofs.BasketWrites.{before_within, insert_linked}
use Rattle.index_write_code.proofs.basket.insert_linked.Goals as goal

pub link-requires : goal.link-requires
link-requires c =
    (c.requires.head_in, rw length-set (before_within _ _ _ _ _ c.slot_before-prev.ensures c.requires.size))

pub returns : goal.returns
returns c =
    insert_linked _ _ _ _ _ _ _ _ _ c.slot_before-prev.ensures c.link.ensures.result.0 c.link.ensures.result.1
