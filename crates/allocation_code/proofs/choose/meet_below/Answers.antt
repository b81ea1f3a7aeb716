-- Answers of `allocation_code::choose::meet_below`.
use Rattle.allocation.specs.Allocation.{may_take_below}
use Rattle.allocation.specs.inner.Choice.{with_slot, past_slot}
use Rattle.allocation.proofs.Choices.{below_taken, below_passed}
use borrow.Author.Rules.{rules}
use Rattle.allocation_code.proofs.choose.meet_below.Goals as goal

pub returns-then-not-may_take_after : goal.returns-then-not-may_take_after
unfolding past_slot may_take_below
returns-then-not-may_take_after c =
    below_passed _ c.args.image.now c.args.next.now c.args.p _ c.may_take_after.ensures (search rules)

pub returns : goal.returns
unfolding with_slot may_take_below
returns c =
    below_taken _ c.args.image.now c.args.next.now c.args.p _ c.may_take_after.ensures (search rules)
