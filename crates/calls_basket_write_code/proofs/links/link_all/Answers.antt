-- Answers of `calls_basket_write_code::links::link_all`.
use Prim.Native.Nat.{◌-◌, ◌<◌}
use native.Mathlib.Omega.{arith}
use mathlib.Core.Path.{◌∙◌}
use Rattle.calls.specs.BasketItems.{item_at}
use Rattle.calls.proofs.BasketLinks.{Linking, linking_starts, linking_on, linking_ends}
use Rattle.calls_basket_write_code.proofs.links.link_all.Goals as goal

pub loop-j-init : goal.loop-j-init
loop-j-init c =
    linking_starts _ _ _ _ _ _ _ _ c.requires

pub head_of-h-requires : goal.head_of-h-requires
head_of-h-requires c =
    omega (arith, c.requires.some_head, c.loop-j.invariant.heads_size)

pub link_item-rest-requires : goal.link_item-rest-requires
link_item-rest-requires c =
    record {
      head_in = c.head_of-h.ensures.result.0;
      size = c.loop-j.invariant.next_size ∙ c.requires.size;
      last_in = c.loop-j.invariant.last_in;
      old-in = c.requires.old-in _ c.loop-j-test.true;
      slot_in = c.requires.slot_in _ c.loop-j-test.true;
    }

pub loop-j-preserved : goal.loop-j-preserved
unfolding item_at
loop-j-preserved c =
    linking_on _ _ _ _ _ _ _ _ c.requires _ _ _ _ c.loop-j.invariant c.loop-j-test.true _
    c.head_of-h.ensures.result.1 _ _ _ c.link_item-rest.auto.heads c.link_item-rest.auto.next
    c.link_item-rest.ensures.result

pub returns : goal.returns
returns c =
    linking_ends _ _ _ _ _ _ _ _ c.requires _ _ _ _ c.loop-j.invariant c.loop-j-test.false
