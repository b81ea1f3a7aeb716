-- Answers of `index_write_code::basket::replace_linked`.
use lib.ListN.{length-set}
use Rattle.index.proofs.BasketWrites.{before_within, replace_linked}
use Rattle.index_write_code.proofs.basket.replace_linked.Goals as goal

pub link-requires : goal.link-requires
link-requires c =
    (c.requires.head_in, rw length-set (before_within _ _ _ _ _ c.slot_before-prev.ensures c.requires.size))

pub returns : goal.returns
returns c =
    replace_linked _ _ _ _ _ _ _ _ _ _ c.slot_before-prev.ensures _ _ c.append_slot.ensures.result.0
    c.append_slot.ensures.result.1 c.link.ensures.result.0 c.link.ensures.result.1
