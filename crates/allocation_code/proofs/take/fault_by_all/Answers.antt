-- Answers of `allocation_code::take::fault_by_all`.
use Rattle.allocation.proofs.Takes.{taken_by_all}
use Rattle.allocation.proofs.Looks.{few_by_choice}
use Rattle.allocation_code.proofs.take.fault_by_all.Goals as goal

-- `allocation_code::take::fault_by_all` meets its contract. Assumes nothing.
pub returns-then-choice-eq28 : goal.returns-then-choice-eq28
returns-then-choice-eq28 c =
    few_by_choice _ c.args.image.now c.args.next.now _ _ _ c.requires.1 _ _ c.requires.3
    c.choose_below-choice.ensures.result c.if-choice-eq28.true

pub returns : goal.returns
returns c =
    taken_by_all _ c.args.image.now c.args.next.now _ _ _ c.requires.1 _ _ c.requires.3 c.walk_fault.ensures
