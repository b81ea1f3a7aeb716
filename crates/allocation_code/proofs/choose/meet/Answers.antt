-- Answers of `allocation_code::choose::meet`.
use Rattle.allocation.proofs.Choices.{known_met}
use Rattle.allocation_code.proofs.choose.meet.Goals as goal

pub returns : goal.returns
returns c =
    known_met _ c.args.image.now c.args.next.now _ c.args.p _ _ c.known_for-top.ensures.0 c.known_for-top.ensures.1 _ c.meet_below.ensures
