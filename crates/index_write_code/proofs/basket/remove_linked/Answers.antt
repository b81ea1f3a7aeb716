-- Answers of `index_write_code::basket::remove_linked`.
use native.Mathlib.Omega.{arith}
use Rattle.index.proofs.Writes.{append_last}
use Rattle.index.proofs.BasketWrites.{before_within, remove_linked}
use Rattle.index_write_code.proofs.basket.remove_linked.Goals as goal

pub link-requires : goal.link-requires
link-requires c =
    (c.requires.head_in, before_within _ _ _ _ _ c.slot_before-prev.ensures c.requires.size)

pub append_slot-requires : goal.append_slot-requires
append_slot-requires c = (
  omega (arith, c.append_slot-joined.auto.next, c.link.auto.next, c.requires.size, c.requires.slot_in),
  omega (
    arith,
    c.append_slot-joined.auto.next,
    c.link.auto.next,
    c.requires.size,
    c.requires.old-in,
    append_last _ _ _
        c.append_slot-joined.ensures.result.0,
  ),
)

pub returns : goal.returns
returns c =
    remove_linked _ _ _ _ _ _ _ _ _ _ c.slot_before-prev.ensures _ _ c.append_slot-joined.ensures.result.0
    c.append_slot-joined.ensures.result.1 _ _ c.link.ensures.result.0
    c.link.ensures.result.1 c.append_slot.ensures.result.0 c.append_slot.ensures.result.1
