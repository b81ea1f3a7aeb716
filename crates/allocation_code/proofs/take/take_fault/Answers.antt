-- Answers of `allocation_code::take::take_fault`.
use Rattle.allocation.proofs.Takes.{taken-first}
use Rattle.allocation_code.proofs.take.take_fault.Goals as goal

pub returns-then-is_open : goal.returns-then-is_open
returns-then-is_open c =
    taken-first _ c.args.image.now _ _ _ _ c.newest_version-known.ensures.result c.requires.some (c.is_open.ensures c.if-is_open.true)
